-- Parts of a packed byte: shifts and masks.
use Rattle.std.proofs.Common.{ℕ, ◌+◌, ◌*◌, ◌-◌, ◌/◌, ◌%◌, ◌^◌, ◌<◌, ◌≡◌, Bool, List, ◌++◌, reverse, length, take, drop, ap, sym, ◌∙◌, subst, arith, take-append-drop, length-drop, length-take-le}
use Rattle.std.proofs.lemmas.Nat.{div-mul-add, mod-mul-add}
use Rattle.std.proofs.lemmas.List.{length-reverse, reverse-append}
use Rattle.deku_stream.specs.declared.ctx.Order.TheVariants.{Msb0, Lsb0}
use Rattle.deku_stream.specs.Bits.{bin, byte_bits, facing, group_number, JoinLaw, PackLaw}
use Rattle.deku_stream.proofs.Binary.{bin-append, length-facing, group_number-lt}
use Rattle.deku_stream.proofs.Cuts.{length-byte_bits, byte-of}

join_low : (s t : List Bool) → group_number Lsb0 (s ++ t) ≡ group_number Lsb0 s + group_number Lsb0 t * 2 ^ length s
join_low s t =
    ap bin (reverse-append s t) ∙ bin-append (reverse t) (reverse s)
    ∙ ap (λ n. bin (reverse t) * 2 ^ n + bin (reverse s)) (length-reverse s) ∙ omega arith

pub join_law : JoinLaw
join_law s t = (bin-append s t, join_low s t)

pub pack_law : PackLaw
pack_law b p h k = (high.0, high.1, low.1, low.0)
  where
    high : (group_number Msb0 (take p (facing Msb0 (byte_bits b))) ≡ b / 2 ^ (8 - p)) × (group_number Msb0 (drop p (facing Msb0 (byte_bits b))) ≡ b % 2 ^ (8 - p))
    high =
        let F : List Bool = facing Msb0 (byte_bits b) in
        let lf : length F ≡ 8 = length-byte_bits b in
        let x : ℕ = group_number Msb0 (take p F) in
        let y : ℕ = group_number Msb0 (drop p F) in
        let ld : length (drop p F) ≡ 8 - p = length-drop p F ∙ ap (λ n. n - p) lf in
        let small : y < 2 ^ (8 - p) = subst (λ n. y < 2 ^ n) ld (group_number-lt Msb0 (drop p F)) in
        let whole_groups : b ≡ x * 2 ^ (8 - p) + y =
        sym (byte-of Msb0 b h) ∙ ap (group_number Msb0) (sym (take-append-drop p F)) ∙ bin-append (take p F) (drop p F) ∙ ap (λ n. x * 2 ^ n + y) ld in (
          sym (ap (λ n. n / 2 ^ (8 - p)) whole_groups ∙ div-mul-add x (2 ^ (8 - p)) y small),
          sym (ap (λ n. n % 2 ^ (8 - p)) whole_groups ∙ mod-mul-add x (2 ^ (8 - p)) y small),
        )

    low : (group_number Lsb0 (drop p (facing Lsb0 (byte_bits b))) ≡ b / 2 ^ p) × (group_number Lsb0 (take p (facing Lsb0 (byte_bits b))) ≡ b % 2 ^ p)
    low =
        let F : List Bool = facing Lsb0 (byte_bits b) in
        let lf : length F ≡ 8 = length-facing Lsb0 (byte_bits b) ∙ length-byte_bits b in
        let x : ℕ = group_number Lsb0 (take p F) in
        let y : ℕ = group_number Lsb0 (drop p F) in
        let lt : length (take p F) ≡ p = length-take-le p F (omega arith) in
        let small : x < 2 ^ p = subst (λ n. x < 2 ^ n) lt (group_number-lt Lsb0 (take p F)) in
        let whole_groups : b ≡ y * 2 ^ p + x =
        sym (byte-of Lsb0 b h) ∙ ap (group_number Lsb0) (sym (take-append-drop p F)) ∙ join_low (take p F) (drop p F) ∙ ap (λ n. x + y * 2 ^ n) lt ∙ omega arith in (
          sym (ap (λ n. n / 2 ^ p) whole_groups ∙ div-mul-add y (2 ^ p) x small),
          sym (ap (λ n. n % 2 ^ p) whole_groups ∙ mod-mul-add y (2 ^ p) x small),
        )
