-- What writing a list of fitting items gives to a sink.
use Rattle.std.proofs.Common.{◌≡◌, ℕ, ◌+◌, ◌*◌, ◌%◌, Bool, true, false, Result, List, [], ◌∷◌, All, ℤ, refl, ap, sym, subst, inl, inr, arith}
use Rattle.std.proofs.KnownBytes.{Appends-nil}
use Rattle.std.proofs.lemmas.List.Elements.{All-head, All-tail}
use Rattle.deku_bits.specs.declared.error.DekuError.{DekuError}
use Rattle.deku_bits.specs.Bits.{shown}
use Rattle.deku_bits.specs.Pieces.{Piece}
use Rattle.deku_bits.specs.Writers.{append}
use Rattle.deku_bits.specs.Symmetry.{appended}
use Rattle.deku_bits.specs.Standings.{Standing, Going, Output}
use Rattle.deku_bits.specs.WriterCalls.{WritesBits}
use Rattle.deku_bits.proofs.Gives.{Shrinks-none}
use Rattle.deku_num.specs.declared.kind.NumberType.{NumberType}
use Rattle.deku_num.specs.declared.ctx.Layout.{Layout}
use Rattle.deku_num.specs.Numbers.{value, IsFieldOf}
use Rattle.deku_num.specs.NumberLaws.{InType}
use Rattle.deku_num.specs.NumberCalls.{Refused, Passed, WritesNumber}
use Rattle.deku_num.proofs.Ranges.{type_law}
use Rattle.deku_num.proofs.FieldBits.{one_list}
use Rattle.deku.specs.Composing.{Answered}
use Rattle.deku.proofs.Emitting.{Wrote, Done, emitted, followed_wrote}
use Rattle.deku_fields.specs.declared.list.Kind.{Kind}
use Rattle.deku_fields.specs.declared.list.Kind.TheVariants.{U8, U16, U32, U64, U128, Usize, I8, I16, I32, I64, I128, Isize}
use Rattle.deku_fields.specs.declared.list.Number.{Number}
use Rattle.deku_fields.specs.declared.list.Number.TheVariants.{Unsigned, Signed}
use Rattle.deku_fields.specs.declared.list.Item.{Item}
use Rattle.deku_fields.specs.Items.{IsNumber, number_type, IsFitting, IsPieceOf, ArePieces}
use Rattle.deku_fields.specs.ListCalls.{integer_of, has_sign, IsOfKind, WritesItem, WritesItems}

-- ---- one item
pub integer_is : (b : Bool) (v : ℤ) (n : Number) → IsNumber b v n → v ≡ integer_of n
integer_is false v (Unsigned n) e = e
integer_is false v (Signed z) e = absurd e
integer_is true v (Unsigned n) e = absurd e
integer_is true v (Signed z) e = e

-- each kind has whole bytes
pub whole_kind : (k : Kind) → (number_type k).bits % 8 ≡ 0
whole_kind U8 = refl
whole_kind U16 = refl
whole_kind U32 = refl
whole_kind U64 = refl
whole_kind U128 = refl
whole_kind Usize = refl
whole_kind I8 = refl
whole_kind I16 = refl
whole_kind I32 = refl
whole_kind I64 = refl
whole_kind I128 = refl
whole_kind Isize = refl

sign_is : (b : Bool) (v : ℤ) (n : Number) → IsNumber b v n → has_sign n ≡ b
sign_is false v (Unsigned n) e = refl
sign_is false v (Signed z) e = absurd e
sign_is true v (Unsigned n) e = absurd e
sign_is true v (Signed z) e = refl

-- a fitting item is worth a value of its kind
of_kind : (i : Item) → IsFitting i → IsOfKind i.field.kind i.value
of_kind i f =
    let t : NumberType = number_type i.field.kind in
    let l : Layout = i.field.layout in
    let v : ℤ = value t l f.bits in (
      sign_is t.signed v i.value (f.worth.worth),
      subst (λ x. InType t.signed t.bits x) (integer_is t.signed v i.value (f.worth.worth)) (type_law t l (whole_kind i.field.kind) (f.allowed) f.bits (f.worth.wide)),
    )

-- the bits of an item's piece are the list of its value
piece_is : (i : Item) (p : Piece) → IsPieceOf i p → IsFieldOf (number_type i.field.kind) i.field.layout (integer_of i.value) p.bits
piece_is i p a = record { wide = a.worth.wide; worth = integer_is (number_type i.field.kind).signed _ i.value (a.worth.worth) }

-- a fitting item is written as its piece
item_wrote : (i : Item) (p : Piece) → IsFitting i → IsPieceOf i p → (out : Output) (c : ℕ) (r : Result (Unit {0}) DekuError) (u : Standing Output)
    → WritesItem i false (Going out c) r u → Wrote (append p.order (shown p.order p.bits) out.pending) out c r u
item_wrote i p f a out c r u (Refused b q) = absurd (q.0 (of_kind i f))
item_wrote i p f a out c r u (Passed (k, w)) = number w
  where
    t : NumberType
    t = number_type i.field.kind

    l : Layout
    l = i.field.layout

    v : ℤ
    v = integer_of i.value

    listed : IsFieldOf t l v p.bits
    listed = piece_is i p a

    number : WritesNumber t l v false (Going out c) r u → Wrote (append p.order (shown p.order p.bits) out.pending) out c r u
    number (Refused b (x, inl q, y, z)) = absurd (omega (arith, q.0, f.allowed.within))
    number (Refused b (x, inr q, y, z)) = absurd (q.1 f.allowed.even)
    number (Passed (Refused b q)) = absurd (q.0 p.bits listed)
    number (Passed (Passed q)) =
        let same : q.1.0 ≡ p.bits = one_list t l v q.1.0 p.bits (f.allowed) q.1.1 listed in
        let bits : WritesBits l.order (shown l.order p.bits) false (Going out c) r u = subst (λ s. WritesBits l.order (shown l.order s) false (Going out c) r u) same q.1.2 in
        subst (λ o. Wrote (append o (shown o p.bits) out.pending) out c r u) (sym (a.same_order)) (emitted (append l.order (shown l.order p.bits)) out c r u bits)

-- fitting items are written as their pieces, one after the other
pub items_wrote : (items : List Item) (ps : List Piece) → All IsFitting items → ArePieces items ps → (out : Output) (c : ℕ) (r : Result (Unit {0}) DekuError) (u : Standing Output)
    → WritesItems items false (Going out c) r u → Wrote (appended ps out.pending) out c r u
unfolding appended
items_wrote [] [] all a out c r u Answered =
    let n : c ≡ c + 8 * 0 = omega arith in
    Done out (record { taken = Appends-nil out.taken; room = Shrinks-none out.room; pending = refl }) refl (ap (λ x. Going out x) n)
items_wrote [] (p ∷ ps) all a out c r u w = absurd a
items_wrote (i ∷ is) [] all a out c r u w = absurd a
items_wrote (i ∷ is) (p ∷ ps) all a out c r u w =
    followed_wrote (append p.order (shown p.order p.bits) out.pending) (appended ps) out c (WritesItem i) (λ _. WritesItems is) r u
    (λ x y m. item_wrote i p (All-head IsFitting i is all) a.0 out c x y m)
    (λ mid d x y m. items_wrote is ps (All-tail IsFitting i is all) a.1 mid d x y m)
    w
