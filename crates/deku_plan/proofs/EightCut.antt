-- Numbers that are cut from eight bytes.
use Rattle.std.proofs.Common.{ℕ, ◌+◌, ◌*◌, ◌-◌, ◌/◌, ◌%◌, ◌^◌, ◌<◌, ◌≤◌, ◌≡◌, Bool, List, ◌++◌, length, take, drop, All, ap, sym, ◌∙◌, subst, ⊎_elim, arith, take-append-drop, length-append, length-drop, length-take-le}
use Rattle.std.proofs.lemmas.List.{take_at, drop_at, take_all, take-append-le, drop-drop}
use Rattle.std.proofs.lemmas.Bool.{cases_lt}
use Rattle.std.proofs.Math.Nat.{pow-le-pow_right}
use Rattle.std.specs.Int.{w64, from_be_bytes}
use Rattle.deku_bits.specs.declared.ctx.Order.TheVariants.{Msb0}
use Rattle.deku_bits.specs.Bits.{bin, bits_of}
use Rattle.deku_bits.specs.Streams.{Stream, Has, taken, left, fresh, seen, flow}
use Rattle.deku_bits.proofs.Binary.{length-bits_of, bin-bits_of, bin-append}
use Rattle.deku_bits.proofs.Bytes.{IsByte}
use Rattle.deku_bits.proofs.Cuts.{length-flow, flow-append}
use Rattle.deku_bits.proofs.EightBytes.{high_bits}
use Rattle.deku_bits.proofs.Packed.{bits_of-split}
use Rattle.deku_bits.proofs.Reading.{spot, spot_zero, drop_front, seen-spot, left-spot}
use Rattle.deku_bits.proofs.Taking.{cut_law}

-- bits after p of the first of two lists
cut_front : (k p : ℕ) (xs ys : List Bool) → p + k ≤ length xs → take k (drop p (xs ++ ys)) ≡ take k (drop p xs)
cut_front k p xs ys h =
    ap (take k) (drop_front p xs ys (omega (arith, h)))
    ∙ take-append-le k (drop p xs) ys (omega (arith, h, length-drop p xs))

-- bits after p of a number of 64
cut_number : (k p v : ℕ) → p + k ≤ 64 → take k (drop p (bits_of 64 v)) ≡ bits_of k (v / 2 ^ (64 - p - k))
cut_number k p v h =
    let first : 64 ≡ p + (64 - p) = omega (arith, h) in
    let second : 64 - p ≡ k + (64 - p - k) = omega (arith, h) in
    ap (λ n. take k (drop p (bits_of n v))) first
    ∙ ap (λ s. take k (drop p s)) (bits_of-split p (64 - p) v)
    ∙ ap (take k) (drop_at (bits_of p (v / 2 ^ (64 - p))) (bits_of (64 - p) v) p (length-bits_of p (v / 2 ^ (64 - p))))
    ∙ ap (λ n. take k (bits_of n v)) second
    ∙ ap (take k) (bits_of-split k (64 - p - k) v)
    ∙ take_at (bits_of k (v / 2 ^ (64 - p - k))) (bits_of (64 - p - k) v) k (length-bits_of k (v / 2 ^ (64 - p - k)))

-- eight bytes, of which the first are those of bs, have the bits of these
same_bits : (k p : ℕ) (bs eight : List ℕ) → length eight ≡ 8 → take (length bs) eight ≡ take 8 bs → p + k ≤ 64 → p + k ≤ 8 * length bs
    → take k (drop p (flow Msb0 bs)) ≡ take k (drop p (flow Msb0 eight))
same_bits k p bs eight l e few there = ⊎_elim
    (λ (short : length bs < 8).
    let front : take (length bs) eight ≡ bs = e ∙ take_all 8 bs (omega (arith, short)) in
    let whole : flow Msb0 eight ≡ flow Msb0 bs ++ flow Msb0 (drop (length bs) eight) =
    ap (flow Msb0) (sym (take-append-drop (length bs) eight)) ∙ flow-append Msb0 (take (length bs) eight) (drop (length bs) eight)
    ∙ ap (λ x. flow Msb0 x ++ flow Msb0 (drop (length bs) eight)) front in
    sym (ap (λ s. take k (drop p s)) whole ∙ cut_front k p (flow Msb0 bs) (flow Msb0 (drop (length bs) eight)) (omega (arith, there, length-flow Msb0 bs))))
    (λ (long : 8 ≤ length bs).
    let front : take 8 bs ≡ eight = sym e ∙ take_all (length bs) eight (omega (arith, l, long)) in
    let whole : flow Msb0 bs ≡ flow Msb0 eight ++ flow Msb0 (drop 8 bs) =
    ap (flow Msb0) (sym (take-append-drop 8 bs)) ∙ flow-append Msb0 (take 8 bs) (drop 8 bs)
    ∙ ap (λ x. flow Msb0 x ++ flow Msb0 (drop 8 bs)) front in
    ap (λ s. take k (drop p s)) whole ∙ cut_front k p (flow Msb0 eight) (flow Msb0 (drop 8 bs)) (omega (arith, few, l, length-flow Msb0 eight)))
    (cases_lt (length bs) 8)

-- the stream after the first bits of bytes
pub left_at : (bit : ℕ) (bytes : List ℕ) → bit ≤ 8 * length bytes → left Msb0 bit (fresh bytes) ≡ spot Msb0 (bit % 8) (drop (bit / 8) bytes)
left_at bit bytes h =
    let all : 0 + bit ≡ bit = omega arith in
    subst (λ b. left Msb0 bit (fresh bytes) ≡ spot Msb0 (b % 8) (drop (b / 8) bytes)) all
    (ap (left Msb0 bit) (sym (spot_zero Msb0 bytes)) ∙ left-spot Msb0 bit 0 bytes (omega arith) (omega (arith, h)))

-- what is taken after the first bits of bytes
pub taken_at : (k bit : ℕ) (bytes eight : List ℕ) → length eight ≡ 8 → All IsByte eight → take (length bytes - bit / 8) eight ≡ take 8 (drop (bit / 8) bytes)
    → k ≤ 57 → bit + k ≤ 8 * length bytes
    → bin (taken Msb0 k (left Msb0 bit (fresh bytes))) ≡ from_be_bytes w64 eight / 2 ^ (64 - bit % 8 - k) % 2 ^ k
unfolding taken
taken_at k bit bytes eight l all e few there =
    let p : ℕ = bit % 8 in
    let bs : List ℕ = drop (bit / 8) bytes in
    let v : ℕ = from_be_bytes w64 eight in
    let rest : length bs ≡ length bytes - bit / 8 = length-drop (bit / 8) bytes in
    let inside : p + k ≤ 8 * length bs = omega (arith, rest, there) in
    let small : p + k ≤ 64 = omega (arith, few) in
    let stream : left Msb0 bit (fresh bytes) ≡ spot Msb0 p bs = left_at bit bytes (omega (arith, there)) in
    let front : take (length bs) eight ≡ take 8 bs = ap (λ n. take n eight) rest ∙ e in
    ap (λ S. bin (take k (seen Msb0 S))) stream
    ∙ ap (λ s. bin (take k s)) (seen-spot Msb0 p bs (omega arith))
    ∙ ap bin (same_bits k p bs eight l front small inside ∙ ap (λ s. take k (drop p s)) (high_bits eight l all) ∙ cut_number k p v small)
    ∙ bin-bits_of k (v / 2 ^ (64 - p - k))

taken_long : (n : ℕ) (S : Stream) → Has n S → length (taken Msb0 n S) ≡ n
unfolding taken
taken_long n S h = length-take-le n (seen Msb0 S) (omega (arith, h, length-append S.window (flow Msb0 S.bytes), length-flow Msb0 S.bytes))

-- two parts of what is taken
pub taken_parts : (m n bit : ℕ) (bytes : List ℕ) → bit + (m + n) ≤ 8 * length bytes
    → bin (taken Msb0 (m + n) (left Msb0 bit (fresh bytes))) ≡ bin (taken Msb0 m (left Msb0 bit (fresh bytes))) * 2 ^ n + bin (taken Msb0 n (left Msb0 (bit + m) (fresh bytes)))
taken_parts m n bit bytes there =
    let S : Stream = left Msb0 bit (fresh bytes) in
    let first = cut_law Msb0 bit (m + n) (fresh bytes) (omega arith) (omega (arith, there)) in
    let parts = cut_law Msb0 m n S first.2 first.3 in
    let next = cut_law Msb0 bit m (fresh bytes) (omega arith) (omega (arith, there)) in
    let long : length (taken Msb0 n (left Msb0 m S)) ≡ n = taken_long n (left Msb0 m S) parts.3 in
    ap bin parts.0 ∙ bin-append (taken Msb0 m S) (taken Msb0 n (left Msb0 m S))
    ∙ ap (λ x. bin (taken Msb0 m S) * 2 ^ x + bin (taken Msb0 n (left Msb0 m S))) long
    ∙ ap (λ T. bin (taken Msb0 m S) * 2 ^ n + bin (taken Msb0 n T)) (sym next.1)

-- at most 32 bits, shifted up by as many
pub below_64 : (n x : ℕ) → n ≤ 32 → x < 2 ^ n → x * 4294967296 % 18446744073709551616 ≡ x * 4294967296
below_64 n x few h =
    let top : 2 ^ n ≤ 2 ^ 32 = pow-le-pow_right {n = 2} (omega arith) {i = n} {j = 32} few in
    let small : x < 4294967296 = omega (arith, h, top) in
    omega (arith, small)

-- how much is taken
pub taken_wide : (n bit : ℕ) (bytes : List ℕ) → bit + n ≤ 8 * length bytes → length (taken Msb0 n (left Msb0 bit (fresh bytes))) ≡ n
taken_wide n bit bytes there =
    let cut = cut_law Msb0 bit n (fresh bytes) (omega arith) (omega (arith, there)) in
    taken_long n (left Msb0 bit (fresh bytes)) cut.3

-- ---- from any byte in front of the bits
-- the bits after whole bytes
flow_after : (n : ℕ) (bs : List ℕ) → n ≤ length bs → drop (8 * n) (flow Msb0 bs) ≡ flow Msb0 (drop n bs)
flow_after n bs h =
    ap (λ x. drop (8 * n) (flow Msb0 x)) (sym (take-append-drop n bs))
    ∙ ap (drop (8 * n)) (flow-append Msb0 (take n bs) (drop n bs))
    ∙ drop_at (flow Msb0 (take n bs)) (flow Msb0 (drop n bs)) (8 * n) (length-flow Msb0 (take n bs) ∙ omega (arith, length-take-le n bs h))

-- the bits after a bit, from a byte in front of it
bits_after : (bit n : ℕ) (bytes : List ℕ) → n ≤ length bytes → 8 * n ≤ bit → drop (bit - 8 * n) (flow Msb0 (drop n bytes)) ≡ drop bit (flow Msb0 bytes)
bits_after bit n bytes inside before =
    ap (drop (bit - 8 * n)) (sym (flow_after n bytes inside))
    ∙ drop-drop (bit - 8 * n) (8 * n) (flow Msb0 bytes)
    ∙ ap (λ i. drop i (flow Msb0 bytes)) (omega (arith, before))

taken_after : (k bit n : ℕ) (bytes : List ℕ) → 8 * n ≤ bit → bit + k ≤ 8 * length bytes
    → taken Msb0 k (left Msb0 bit (fresh bytes)) ≡ take k (drop (bit - 8 * n) (flow Msb0 (drop n bytes)))
unfolding taken
taken_after k bit n bytes before there =
    let rest : bit % 8 ≡ bit - 8 * (bit / 8) = omega arith in
    ap (λ S. take k (seen Msb0 S)) (left_at bit bytes (omega (arith, there)))
    ∙ ap (take k) (seen-spot Msb0 (bit % 8) (drop (bit / 8) bytes) (omega arith)
    ∙ ap (λ i. drop i (flow Msb0 (drop (bit / 8) bytes))) rest
    ∙ bits_after bit (bit / 8) bytes (omega (arith, there)) (omega arith)
    ∙ sym (bits_after bit n bytes (omega (arith, before, there)) before))

-- what is taken from eight bytes that begin at or before the first bit, and have the last one
pub taken_eight : (k bit n : ℕ) (bytes eight : List ℕ) → length eight ≡ 8 → All IsByte eight → eight ≡ take 8 (drop n bytes) → n + 8 ≤ length bytes → 8 * n ≤ bit → (bit - 8 * n) + k ≤ 64
    → bin (taken Msb0 k (left Msb0 bit (fresh bytes))) ≡ from_be_bytes w64 eight / 2 ^ (64 - (bit - 8 * n) - k) % 2 ^ k
taken_eight k bit n bytes eight l all is inside before few =
    let p : ℕ = bit - 8 * n in
    let bs : List ℕ = drop n bytes in
    let v : ℕ = from_be_bytes w64 eight in
    let long : 8 ≤ length bs = omega (arith, length-drop n bytes, inside) in
    let front : take (length bs) eight ≡ take 8 bs = take_all (length bs) eight (omega (arith, l, long)) ∙ is in
    ap bin (taken_after k bit n bytes before (omega (arith, few, inside, before))
    ∙ same_bits k p bs eight l front few (omega (arith, few, long))
    ∙ ap (λ s. take k (drop p s)) (high_bits eight l all) ∙ cut_number k p v few)
    ∙ bin-bits_of k (v / 2 ^ (64 - p - k))
