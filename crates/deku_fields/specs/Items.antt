-- Fields and items: the pieces of items, the bytes that these lay out, and what fields read from a
-- stream.
use Rattle.std.specs.Prelude.{ℕ, ◌≡◌, Bool, true, false, List, [], ◌∷◌, map, length, ℤ, pos}
use Rattle.std.specs.List.{AllZip}
use Rattle.deku_bits.specs.declared.ctx.Order.{Order}
use Rattle.deku_bits.specs.Streams.{Stream, Has, taken, left}
use Rattle.deku_bits.specs.Pieces.{Piece, Aligned, laid_out}
use Rattle.deku_num.specs.declared.kind.NumberType.{NumberType}
use Rattle.deku_num.specs.Numbers.{byte, unsigned, signed, width, value, IsAllowed}
use Rattle.deku_fields.specs.declared.list.Kind.{Kind}
use Rattle.deku_fields.specs.declared.list.Kind.TheVariants.{U8, U16, U32, U64, U128, Usize, I8, I16, I32, I64, I128, Isize}
use Rattle.deku_fields.specs.declared.list.Number.{Number}
use Rattle.deku_fields.specs.declared.list.Number.TheVariants.{Unsigned, Signed}
use Rattle.deku_fields.specs.declared.list.Field.{Field}
use Rattle.deku_fields.specs.declared.list.Item.{Item}

-- The type of a kind.
abbrev pub number_type : Kind → NumberType
number_type U8 = byte
number_type U16 = unsigned 16
number_type U32 = unsigned 32
number_type U64 = unsigned 64
number_type U128 = unsigned 128
number_type Usize = unsigned 64
number_type I8 = signed 8
number_type I16 = signed 16
number_type I32 = signed 32
number_type I64 = signed 64
number_type I128 = signed 128
number_type Isize = signed 64

-- A number of an unsigned kind, or of a signed one, is the integer v.
abbrev pub IsNumber : Bool → ℤ → Number → Type 0
IsNumber false v (Unsigned n) = v ≡ pos n
IsNumber true v (Signed z) = v ≡ z
IsNumber _ v _ = ⊥

-- How many bits a field takes.
abbrev pub field_width : Field → ℕ
field_width f = width (number_type f.kind) f.layout

-- The order and the width of a field.
abbrev pub field_shape : Field → Order × ℕ
field_shape f = (f.layout.order, field_width f)

-- The order changes only at byte boundaries.
abbrev pub AlignedFields : List Field → Type 0
AlignedFields fs = Aligned (map field_shape fs)

-- Bits of the width of a field, with the number as their value.
pub record IsWorth (f : Field) (s : List Bool) (n : Number) : Type 0 where
  pub wide : length s ≡ field_width f
  pub worth : IsNumber (number_type f.kind).signed (value (number_type f.kind) f.layout s) n

-- A field whose layout is not rejected.
abbrev pub IsAllowedField : Field → Type 0
IsAllowedField f = IsAllowed (number_type f.kind) f.layout

-- An item whose layout is not rejected and whose value fits: some bits have this value.
pub record IsFitting (i : Item) : Type 0 where
  pub allowed : IsAllowedField i.field
  pub bits : List Bool
  pub worth : IsWorth i.field bits i.value

-- The piece of an item: bits in the field's order, with this value.
pub record IsPieceOf (i : Item) (p : Piece) : Type 0 where
  pub same_order : p.order ≡ i.field.layout.order
  pub worth : IsWorth i.field p.bits i.value

-- The pieces of items.
abbrev pub ArePieces : List Item → List Piece → Type 0
ArePieces items ps = AllZip IsPieceOf items ps

-- Items lay out the bytes of their pieces.
pub record LaysOut (items : List Item) (bytes : List ℕ) : Type 0 where
  pub pieces : List Piece
  pub are : ArePieces items pieces
  pub is : bytes ≡ laid_out pieces

-- Fields are read one after the other from a stream: the numbers, and the stream that is left.
abbrev pub ReadsValues : List Field → Stream → List Number → Stream → Type 0
ReadsValues [] S [] T = S ≡ T
ReadsValues (f ∷ fs) S (n ∷ ns) T = Has (field_width f) S × IsWorth f (taken f.layout.order (field_width f) S) n × ReadsValues fs (left f.layout.order (field_width f) S) ns T
ReadsValues _ S _ T = ⊥

-- The fields of items.
abbrev pub fields_of : List Item → List Field
fields_of items = map (λ i. i.field) items

-- The values of items.
abbrev pub values_of : List Item → List Number
values_of items = map (λ i. i.value) items
