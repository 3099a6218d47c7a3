-- What reading a list of fields gives.
use Rattle.std.proofs.Common.{◌≡◌, ℕ, ◌+◌, ◌<◌, ◌^◌, Bool, true, false, Some, List, [], ◌∷◌, map, All, ℤ, pos, negsuc, ap, subst, arith}
use Rattle.std.proofs.lemmas.List.Elements.{All-head, All-tail}
use Rattle.deku_bits.specs.Streams.{Stream, Has, taken, left}
use Rattle.deku_bits.specs.Pieces.{total}
use Rattle.deku_bits.specs.Standings.{Going}
use Rattle.deku_bits.specs.Outcomes.{Mapped}
use Rattle.deku_num.specs.Numbers.{value}
use Rattle.deku_num.specs.NumberCalls.{ReadsNumber}
use Rattle.deku.specs.Giving.{Gives}
use Rattle.deku.proofs.Exact.{mapped_gives, then_gives, answer_gives, number_gives}
use Rattle.deku_fields.specs.declared.list.Number.{Number}
use Rattle.deku_fields.specs.declared.list.Number.TheVariants.{Unsigned, Signed}
use Rattle.deku_fields.specs.declared.list.Field.{Field}
use Rattle.deku_fields.specs.Items.{IsNumber, number_type, field_width, field_shape, IsAllowedField, IsWorth, ReadsValues}
use Rattle.deku_fields.specs.ListCalls.{number_of, ReadsField, ReadsFields}

-- the number of an integer is the one that it is
number_is : (b : Bool) (v : ℤ) (n : Number) → IsNumber b v n → number_of b v ≡ n
number_is false (pos m) (Unsigned n) e = ap Unsigned (let f : pos m ≡ pos n = e in cc)
number_is false (negsuc m) (Unsigned n) e = absurd (cc)
number_is false v (Signed z) e = absurd e
number_is true v (Unsigned n) e = absurd e
number_is true v (Signed z) e = ap Signed e

field_gives : (f : Field) (S : Stream) (n : Number) (c : ℕ) → IsAllowedField f → Has (field_width f) S → IsWorth f (taken f.layout.order (field_width f) S) n → c + field_width f < 2 ^ 64
    → Gives (ReadsField f) (Going (Some S) c) n (Going (Some (left f.layout.order (field_width f) S)) (c + field_width f))
field_gives f S n c ok has worth room =
    let v : ℤ = value (number_type f.kind) f.layout (taken f.layout.order (field_width f) S) in
    let g = mapped_gives (number_of (number_type f.kind).signed) (ReadsNumber (number_type f.kind) f.layout) (Going (Some S) c) _ _
    (number_gives (number_type f.kind) f.layout S c ok room has) in
    subst (λ x. Gives (ReadsField f) (Going (Some S) c) x (Going (Some (left f.layout.order (field_width f) S)) (c + field_width f)))
    (number_is (number_type f.kind).signed v n (worth.worth)) g

-- fields that are not refused give the numbers that they read, and leave what is left of the stream
pub fields_give : (fs : List Field) (ns : List Number) (S T : Stream) (c : ℕ) → All IsAllowedField fs → ReadsValues fs S ns T → c + total (map field_shape fs) < 2 ^ 64
    → Gives (ReadsFields fs) (Going (Some S) c) ns (Going (Some T) (c + total (map field_shape fs)))
fields_give [] [] S T c ok r room =
    let n : c + 0 ≡ c = omega arith in
    rw (n, ← r) (answer_gives [] (Going (Some S) c))
fields_give [] (n ∷ ns) S T c ok r room = absurd r
fields_give (f ∷ fs) [] S T c ok r room = absurd r
fields_give (f ∷ fs) (n ∷ ns) S T c ok r room =
    let w : ℕ = field_width f in
    let R : Stream = left f.layout.order w S in
    let sum : c + w + total (map field_shape fs) ≡ c + (w + total (map field_shape fs)) = omega arith in
    let first = field_gives f S n c (All-head IsAllowedField f fs ok) r.0 r.1 (omega arith) in
    let others = fields_give fs ns R T (c + w) (All-tail IsAllowedField f fs ok) r.2 (omega arith) in
    subst (λ x. Gives (ReadsFields (f ∷ fs)) (Going (Some S) c) (n ∷ ns) (Going (Some T) x)) sum
    (then_gives (ReadsField f) (λ m. Mapped (λ ms. m ∷ ms) (ReadsFields fs)) (Going (Some S) c) n (Going (Some R) (c + w)) (n ∷ ns) _ first
    (mapped_gives (λ ms. n ∷ ms) (ReadsFields fs) (Going (Some R) (c + w)) ns _ others))
