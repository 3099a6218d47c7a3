-- Five items in fields of mixed orders, one with a sign: they fit, and their fields are aligned.
use Rattle.std.proofs.Common.{ℕ, ◌<◌, true, List, [], ◌∷◌, All, ℤ, pos, refl, inl, inr, arith}
use Rattle.std.proofs.lemmas.List.Elements.{All-cons, All-nil}
use Rattle.deku_bits.specs.declared.ctx.Order.TheVariants.{Msb0}
use Rattle.deku_num.specs.declared.ctx.Endian.TheVariants.{Big}
use Rattle.deku_num.specs.declared.ctx.Size.TheVariants.{Whole, Bits}
use Rattle.deku_num.specs.NumberLaws.{InRange, FieldLaw}
use Rattle.deku_num.specs.Rows.{big_msb, little_lsb}
use Rattle.deku_fields.specs.declared.list.Item.{Item}
use Rattle.deku_fields.specs.declared.list.Kind.TheVariants.{U8, U16, I16}
use Rattle.deku_fields.specs.declared.list.Number.TheVariants.{Unsigned, Signed}
use Rattle.deku_fields.specs.Items.{IsFitting, AlignedFields, fields_of}
use Rattle.deku_fields.specs.Rows.{item}
use Rattle.deku_callers.proofs.Returning.{fitting}

-- four bits and four, high bits first, thirteen and three, low bits first, and two bytes with a
-- sign, high byte first
abbrev pub five : (version kind span flags : ℕ) → ℤ → List Item
five version kind span flags heat = item U8 (big_msb (Bits 4)) (Unsigned version) ∷ item U8 (big_msb (Bits 4)) (Unsigned kind) ∷ item U16 (little_lsb (Bits 13)) (Unsigned span)
    ∷ item U8 (little_lsb (Bits 3)) (Unsigned flags) ∷ item I16 (big_msb Whole) (Signed heat) ∷ []

pub five_fit : FieldLaw → (version kind span flags : ℕ) (heat : ℤ) → version < 16 → kind < 16 → span < 8192 → flags < 8 → InRange true Big Msb0 16 heat → All IsFitting (five version kind span flags heat)
five_fit law version kind span flags heat v k s f inside =
    let a : Item = item U8 (big_msb (Bits 4)) (Unsigned version) in
    let b : Item = item U8 (big_msb (Bits 4)) (Unsigned kind) in
    let d : Item = item U16 (little_lsb (Bits 13)) (Unsigned span) in
    let e : Item = item U8 (little_lsb (Bits 3)) (Unsigned flags) in
    let g : Item = item I16 (big_msb Whole) (Signed heat) in
    let fa = fitting law a (pos version) (record { within = omega arith; even = refl }) (version, refl, omega arith) (λ x y. y) in
    let fb = fitting law b (pos kind) (record { within = omega arith; even = refl }) (kind, refl, omega arith) (λ x y. y) in
    let fd = fitting law d (pos span) (record { within = omega arith; even = refl }) (span, refl, omega arith) (λ x y. y) in
    let fe = fitting law e (pos flags) (record { within = omega arith; even = refl }) (flags, refl, omega arith) (λ x y. y) in
    let fg = fitting law g heat (record { within = omega arith; even = refl }) inside (λ x y. y) in
    All-cons IsFitting a (b ∷ d ∷ e ∷ g ∷ []) fa (All-cons IsFitting b (d ∷ e ∷ g ∷ []) fb (All-cons IsFitting d (e ∷ g ∷ []) fd (All-cons IsFitting e (g ∷ []) fe (All-cons IsFitting g [] fg (All-nil IsFitting)))))

pub five_aligned : (version kind span flags : ℕ) (heat : ℤ) → AlignedFields (fields_of (five version kind span flags heat))
five_aligned version kind span flags heat = (inl refl, (inr refl, (inl refl, (inr refl, (inl refl, tt)))))
