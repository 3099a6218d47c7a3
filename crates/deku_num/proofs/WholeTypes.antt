-- A value of a type of whole bytes is written as the bits of its type.
use Rattle.std.proofs.Common.{ℕ, zero, suc, ◌%◌, ◌^◌, ◌<◌, ◌≡◌, inl, inr, Bool, true, false, List, Result, ℤ, pos, neg_ℤ, ◌≤ℤ◌, ◌<ℤ◌, refl, ap, sym, ◌∙◌, arith, subst}
use Rattle.deku_bits.specs.declared.ctx.Order.{Order}
use Rattle.deku_bits.specs.declared.ctx.Order.TheVariants.{Msb0, Lsb0}
use Rattle.deku_bits.specs.Bits.{shown}
use Rattle.deku_bits.specs.declared.error.DekuError.{DekuError}
use Rattle.deku_bits.specs.Standings.{Standing, Output}
use Rattle.deku_bits.specs.WriterCalls.{WritesBits}
use Rattle.deku_num.specs.declared.ctx.Endian.{Endian}
use Rattle.deku_num.specs.declared.ctx.Endian.TheVariants.{Little, Big}
use Rattle.deku_num.specs.NumberLaws.{InType, InRange}
use Rattle.deku_num.specs.Numbers.{width, sized_width, IsEvenWhere, IsAllowed, IsFieldOf}
use Rattle.deku_num.specs.NumberCalls.{Refused, Passed, WritesNumber, SizeLaw}
use Rattle.deku_num.proofs.Ranges.{range_whole}
use Rattle.deku_num.proofs.Values.{field_law}
use Rattle.deku_num.proofs.FieldBits.{one_list}

even_whole : (g : Bool) (e : Endian) (o : Order) (n : ℕ) → n % 8 ≡ 0 → IsEvenWhere g e o n
even_whole false e o n d = refl
even_whole true Little o n d = refl
even_whole true Big Msb0 n d = refl
even_whole true Big Lsb0 n d = inr d

range_of_type : (g : Bool) (e : Endian) (o : Order) (n : ℕ) (v : ℤ) → 0 < n → n % 8 ≡ 0 → InType g n v → InRange g e o n v
range_of_type true e o zero v p d i = absurd (omega arith)
range_of_type true e o (suc n) v p d i = subst (λ k. (neg_ℤ (pos (2 ^ k)) ≤ℤ v) × (v <ℤ pos (2 ^ k))) (omega arith) i
range_of_type false e o n v p d i = (i.0, i.1, range_whole e o n i.0 d i.2)

pub size_law : SizeLaw
size_law t l v i = (field.0, field.1.wide ∙ wide, written)
  where
    wide : width t l ≡ t.bits
    wide = ap (sized_width t) i.whole

    even : width t l % 8 ≡ 0
    even = ap (λ n. n % 8) wide ∙ i.bytes

    allowed : IsAllowed t l
    allowed = record { within = omega (arith, wide); even = even_whole t.signed l.endian l.order (width t l) even }

    in_range : InRange t.signed l.endian l.order (width t l) v
    in_range = range_of_type t.signed l.endian l.order (width t l) v (omega (arith, wide, i.some)) even (subst (λ n. InType t.signed n v) (sym wide) i.in_type)

    field : (bits : List Bool) × IsFieldOf t l v bits
    field = (field_law t l allowed v).0.1 in_range

    written : (b : Bool) (s : Standing Output) (r : Result (Unit {0}) DekuError) (u : Standing Output) → WritesNumber t l v b s r u
        → WritesBits l.order (shown l.order field.0) b s r u
    written b s r u (Refused q (x, inl k, y, z)) = absurd (omega (arith, k.0, wide))
    written b s r u (Refused q (x, inr k, y, z)) = absurd (k.1 allowed.even)
    written b s r u (Passed (Refused q k)) = absurd (k.0 field.0 field.1)
    written b s r u (Passed (Passed k)) =
        let same : k.1.0 ≡ field.0 = one_list t l v k.1.0 field.0 allowed k.1.1 field.1 in
        subst (λ bits. WritesBits l.order (shown l.order bits) b s r u) same k.1.2
