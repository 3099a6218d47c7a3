-- What numbers of fields in `Msb0` are worth.
use Rattle.std.proofs.Common.{◌≡◌, ℕ, Bool, true, false, List, length, ℤ, sym, ap, ◌∙◌, subst}
use Rattle.deku_bits.specs.declared.ctx.Order.TheVariants.{Msb0}
use Rattle.deku_bits.specs.Bits.{bin}
use Rattle.deku_num.specs.declared.kind.NumberType.{NumberType}
use Rattle.deku_num.specs.Numbers.{number, value, with_sign}
use Rattle.deku_num.specs.declared.ctx.Endian.TheVariants.{Big}
use Rattle.deku_num.proofs.Carrying.{unsigned_worth, signed_worth}
use Rattle.deku_fields.specs.declared.list.Number.TheVariants.{Unsigned, Signed}
use Rattle.deku_fields.specs.declared.list.Field.{Field}
use Rattle.deku_fields.specs.Items.{IsNumber, number_type, field_width, IsWorth}
use Rattle.deku_plan.proofs.Unsigned.{big_is}

pub worth_plain : (f : Field) (s : List Bool) (k w : ℕ) → (number_type f.kind).signed ≡ false → f.layout.order ≡ Msb0 → w ≡ field_width f → length s ≡ w → k ≡ number f.layout.endian Msb0 s
    → IsWorth f s (Unsigned k)
worth_plain f s k w plain high wide long e =
    let t : NumberType = number_type f.kind in
    let is : k ≡ number f.layout.endian f.layout.order s = rw high e in
    record { wide = long ∙ wide; worth = subst (λ b. IsNumber b (value t f.layout s) (Unsigned k)) (sym plain) (sym (unsigned_worth t f.layout s k plain is)) }

pub worth_signed : (f : Field) (s : List Bool) (k w : ℕ) (z : ℤ) → (number_type f.kind).signed ≡ true → f.layout.order ≡ Msb0 → w ≡ field_width f → length s ≡ w → k ≡ number f.layout.endian Msb0 s
    → z ≡ with_sign true w k → IsWorth f s (Signed z)
worth_signed f s k w z g high wide long e q =
    let t : NumberType = number_type f.kind in
    let is : k ≡ number f.layout.endian f.layout.order s = rw high e in
    record { wide = long ∙ wide; worth = subst (λ b. IsNumber b (value t f.layout s) (Signed z)) (sym g) (sym (q ∙ signed_worth t f.layout s w k g long is)) }

-- a big field without a sign
pub worth_high : (f : Field) (s : List Bool) (k w : ℕ) → (number_type f.kind).signed ≡ false → f.layout.endian ≡ Big → f.layout.order ≡ Msb0 → w ≡ field_width f → length s ≡ w → k ≡ bin s → IsWorth f s (Unsigned k)
worth_high f s k w plain big high wide long e =
    worth_plain f s k w plain high wide long (e ∙ sym (big_is s) ∙ ap (λ x. number x Msb0 s) (sym big))
