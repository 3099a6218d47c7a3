-- Numbers that are truncated to their fields' bytes, and the bits that were written for them when
-- each size in bytes still truncated.
use Rattle.std.specs.Prelude.{◌≡◌, ◌↔◌, Bool, true, false, not, List, length, All, ℤ}
use Rattle.std.specs.List.{AllZip}
use Rattle.deku_bits.specs.Pieces.{Piece}
use Rattle.deku_num.specs.declared.ctx.Size.{Size}
use Rattle.deku_num.specs.declared.ctx.Size.TheVariants.{Bytes}
use Rattle.deku_num.specs.declared.ctx.Layout.{Layout}
use Rattle.deku_num.specs.declared.kind.NumberType.{NumberType}
use Rattle.deku_num.specs.Numbers.{width, number, IsFieldOf, Fits}
use Rattle.deku_num.specs.NumberLaws.{residue}
use Rattle.deku_fields.specs.declared.list.Number.{Number}
use Rattle.deku_fields.specs.declared.list.Field.{Field}
use Rattle.deku_fields.specs.declared.list.Item.{Item}
use Rattle.deku_fields.specs.Items.{number_type, IsAllowedField, IsWorth, ArePieces}
use Rattle.deku_fields.specs.ListCalls.{IsOfKind, integer_of}

-- A number is of the field's kind, and the field's layout is not rejected.
pub record AdmitsCut (f : Field) (n : Number) : Type 0 where
  pub kind : IsOfKind f.kind n
  pub allowed : IsAllowedField f

-- ---- what is left of a number
-- w fits the field, and is v modulo two to the power of its width.
pub record IsCut (t : NumberType) (l : Layout) (v w : ℤ) : Type 0 where
  pub fits : Fits t l w
  pub same : residue w (width t l) ≡ residue v (width t l)

-- A size in bytes truncates numbers of each type except `u8`.
abbrev pub cuts : NumberType → Size → Bool
cuts t (Bytes n) = not t.one_byte
cuts t _ = false

-- If numbers are truncated, w is v truncated to the field. Otherwise it is v.
abbrev pub IsLeft : Bool → NumberType → Layout → ℤ → ℤ → Type 0
IsLeft true t l v w = IsCut t l v w
IsLeft false t l v w = w ≡ v

-- A number of the field's kind is what is left of n.
pub record IsCutTo (f : Field) (n kept : Number) : Type 0 where
  pub kind : IsOfKind f.kind kept
  pub left : IsLeft (cuts (number_type f.kind) f.layout.size) (number_type f.kind) f.layout (integer_of n) (integer_of kept)

-- ---- the bits that were written
-- The lowest bits of v: a list of the field's width whose number is v modulo two to the power of
-- the width.
pub record AreLowest (t : NumberType) (l : Layout) (v : ℤ) (s : List Bool) : Type 0 where
  pub wide : length s ≡ width t l
  pub worth : number l.endian l.order s ≡ residue v (width t l)

-- The bits that were written for v when each size in bytes still truncated: its lowest ones. For
-- any other size they are the bits with the value v.
abbrev pub WereWritten : Size → NumberType → Layout → ℤ → List Bool → Type 0
WereWritten (Bytes n) t l v s = AreLowest t l v s
WereWritten _ t l v s = IsFieldOf t l v s

-- There is exactly one result of truncating a number that a field allows. The bits with its value
-- are those that were written for the number.
abbrev pub CutLaw : Type 0
CutLaw = (f : Field) (n kept : Number) → AdmitsCut f n → IsCutTo f n kept
    → ((other : Number) → IsCutTo f n other → other ≡ kept)
    × ((s : List Bool) → WereWritten f.layout.size (number_type f.kind) f.layout (integer_of n) s ↔ IsWorth f s kept)

-- ---- lists
-- An item whose field allows its value.
abbrev pub IsAdmitted : Item → Type 0
IsAdmitted i = AdmitsCut i.field i.value

-- An item with what is left of another's value, in the same field.
pub record IsCutItem (i j : Item) : Type 0 where
  pub field : j.field ≡ i.field
  pub cut : IsCutTo i.field i.value j.value

-- The piece that was written for an item.
pub record WasPieceOf (i : Item) (p : Piece) : Type 0 where
  pub same_order : p.order ≡ i.field.layout.order
  pub bits : WereWritten i.field.layout.size (number_type i.field.kind) i.field.layout (integer_of i.value) p.bits

-- Items whose values are truncated have the pieces that were written for the items before. So they
-- lay out the same bytes.
abbrev pub CutItemsLaw : Type 0
CutItemsLaw = (items kept : List Item) → All IsAdmitted items → AllZip IsCutItem items kept
    → (ps : List Piece) → AllZip WasPieceOf items ps ↔ ArePieces kept ps
