-- Items that nothing refuses for what they are: their value is of their kind.
use Rattle.std.proofs.Common.{◌≡◌, ℕ, ◌%◌, ◌^◌, ◌<◌, Bool, false, List, length, Option, Ok, pos, refl, sym, ap, subst, ◌∙◌}
use Rattle.deku_bits.specs.Devices.{Health}
use Rattle.deku_bits.specs.Streams.{Stream}
use Rattle.deku_bits.specs.Standings.{Standing, Output}
use Rattle.deku_bits.specs.Outcomes.{Outcome}
use Rattle.deku_bits.specs.ReaderCalls.{TakesBits}
use Rattle.deku_bits.specs.WriterCalls.{WritesBits}
use Rattle.deku_bits.proofs.Binary.{length-bits_of}
use Rattle.deku_bits.proofs.Handing.{weaker}
use Rattle.deku_bits.specs.declared.ctx.Order.TheVariants.{Msb0}
use Rattle.deku_bits.specs.Bits.{bits_of, shown}
use Rattle.deku_num.specs.declared.ctx.Endian.TheVariants.{Little, Big}
use Rattle.deku_num.specs.declared.ctx.Layout.{Layout}
use Rattle.deku_num.specs.declared.kind.NumberType.{NumberType}
use Rattle.deku_num.specs.NumberLaws.{InType}
use Rattle.deku_num.specs.Numbers.{width, number, value, IsAllowed, IsFieldOf, IsWordFor}
use Rattle.deku_num.specs.NumberCalls.{WritesNumber, Passed}
use Rattle.deku_num.proofs.Chunked.{listed}
use Rattle.deku_num.proofs.Turned.{word_is}
use Rattle.deku_num.proofs.Carrying.{high_in, unsigned_in_type, unsigned_worth, number_read}
use Rattle.deku_fields.specs.declared.list.Number.TheVariants.{Unsigned}
use Rattle.deku_fields.specs.declared.list.Item.{Item}
use Rattle.deku_fields.specs.declared.list.Field.{Field}
use Rattle.deku_fields.specs.Items.{number_type, field_width, IsAllowedField}
use Rattle.deku_fields.specs.ListCalls.{IsOfKind, ReadsField, WritesItem}
use Rattle.deku_fields.proofs.Stepping.{unsigned_field, item_passed}
use Rattle.deku_fields.proofs.WritingLists.{whole_kind}

-- a value that has a word is of its type
word_in_type : (t : NumberType) (l : Layout) (v w : ℕ) → t.signed ≡ false → IsAllowed t l → t.bits % 8 ≡ 0 → IsWordFor t l (pos v) w → v < 2 ^ t.bits
word_in_type t l v w g ok d h =
    let r = listed Little l.order (width t l) w h.below in
    let f = h.list r.0 r.1 (word_is l.order r.0 ∙ r.2) in
    unsigned_in_type t l r.0 v g ok r.1 (sym f.worth) d

in_unsigned : (b : Bool) (n v : ℕ) → b ≡ false → v < 2 ^ n → InType b n (pos v)
in_unsigned b n v e h = subst (λ x. InType x n (pos v)) (sym e) (v, refl, h)

-- an item without a sign that has a word is of its kind
pub kind_of_word : (i : Item) {v w : ℕ} → i.value ≡ Unsigned v → (number_type i.field.kind).signed ≡ false → IsAllowed (number_type i.field.kind) i.field.layout
    → IsWordFor (number_type i.field.kind) i.field.layout (pos v) w → IsOfKind i.field.kind i.value
kind_of_word i {v} {w} is g ok h = rw is (
  sym g,
  in_unsigned (number_type i.field.kind).signed (number_type i.field.kind).bits v g (word_in_type (number_type i.field.kind) i.field.layout v w g ok (whole_kind i.field.kind) h),
)

-- a field without a sign that is big and `Msb0`, whose bits were taken
pub high_field : (f : Field) (n k : ℕ) {s : Standing (Option Stream)} {h : Health} {u : Standing (Option Stream)} {g : Health}
    → (number_type f.kind).signed ≡ false → f.layout.endian ≡ Big → f.layout.order ≡ Msb0 → n ≡ field_width f → IsAllowedField f → k < 2 ^ n
    → Outcome (TakesBits Msb0 n) s h (Ok (bits_of n k)) u g → Outcome (ReadsField f) s h (Ok (Unsigned k)) u g
high_field f n k {s} {h} {u} {g} plain big high wide ok small o =
    let t : NumberType = number_type f.kind in
    let l : Layout = f.layout in
    let is : k ≡ number l.endian l.order (bits_of n k) = high_in f.layout n k big high small in
    let taken : Outcome (TakesBits l.order n) s h (Ok (bits_of n k)) u g = rw high o in
    unsigned_field f plain (rw (unsigned_worth t l (bits_of n k) k plain is) (number_read t l n ok taken wide))

-- an item without a sign that is big and `Msb0`, whose bits were written
pub high_item : (i : Item) (n k : ℕ) {s : Standing Output} {h : Health} {u : Standing Output} {g : Health}
    → i.value ≡ Unsigned k → (number_type i.field.kind).signed ≡ false → i.field.layout.endian ≡ Big → i.field.layout.order ≡ Msb0
    → n ≡ field_width i.field → IsAllowedField i.field → k < 2 ^ n → Outcome (WritesBits Msb0 (shown Msb0 (bits_of n k))) s h (Ok tt) u g → Outcome (WritesItem i) s h (Ok tt) u g
high_item i n k {s} {h} {u} {g} is plain big high wide ok small o =
    let t : NumberType = number_type i.field.kind in
    let l : Layout = i.field.layout in
    let bits : List Bool = bits_of n k in
    let worth : pos k ≡ value t l bits = unsigned_worth t l bits k plain (high_in l n k big high small) in
    let long : length bits ≡ width t l = length-bits_of n k ∙ wide in
    let listed : IsFieldOf t l (pos k) bits = record { wide = long; worth = sym worth } in
    let kind : IsOfKind i.field.kind i.value = rw is (sym plain, in_unsigned t.signed t.bits k plain (unsigned_in_type t l bits k plain ok long worth (whole_kind i.field.kind))) in
    let turned : WritesBits Msb0 (shown Msb0 bits) ≡ WritesBits l.order (shown l.order bits) = ap (λ x. WritesBits x (shown x bits)) (sym high) in
    item_passed i (Unsigned k) is refl kind
    (weaker (WritesBits Msb0 (shown Msb0 bits)) (WritesNumber t l (pos k)) s h (Ok tt) u g
    (λ b m. Passed (Passed (ok, (bits, listed, subst (λ x. x b s (Ok tt) u) turned m)))) o)
