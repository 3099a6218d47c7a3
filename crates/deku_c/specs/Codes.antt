-- Fields and numbers as C passes them, and the fields, numbers and items that they mean.
use Rattle.std.specs.Prelude.{ℕ, zero, suc, ◌+◌, ◌*◌, ◌/◌, ◌%◌, ◌^◌, ◌<◌, Bool, true, false, List, [], ◌∷◌, map, slice_index_or}
use Rattle.deku_bits.specs.declared.ctx.Order.{Order}
use Rattle.deku_bits.specs.declared.ctx.Order.TheVariants.{Msb0, Lsb0}
use Rattle.deku_num.specs.declared.ctx.Endian.{Endian}
use Rattle.deku_num.specs.declared.ctx.Endian.TheVariants.{Little, Big}
use Rattle.deku_num.specs.declared.ctx.Size.{Size}
use Rattle.deku_num.specs.declared.ctx.Size.TheVariants.{Whole, Bits, Bytes}
use Rattle.deku_num.specs.Numbers.{with_sign}
use Rattle.deku_fields.specs.declared.list.Kind.{Kind}
use Rattle.deku_fields.specs.declared.list.Kind.TheVariants.{U8, U16, U32, U64, U128, Usize, I8, I16, I32, I64, I128, Isize}
use Rattle.deku_fields.specs.declared.list.Number.{Number}
use Rattle.deku_fields.specs.declared.list.Number.TheVariants.{Unsigned, Signed}
use Rattle.deku_fields.specs.declared.list.Field.{Field}
use Rattle.deku_fields.specs.declared.list.Item.{Item}
use Rattle.deku_fields.specs.Items.{number_type}
use Rattle.deku_c.specs.declared.codes.FieldCode.{FieldCode}
use Rattle.deku_c.specs.declared.codes.NumberCode.{NumberCode}

-- ---- fields
-- Each number of a field is one that has a name.
pub record IsNamed (c : FieldCode) : Type 0 where
  pub kind : c.kind < 12
  pub endian : c.endian < 2
  pub order : c.order < 2
  pub unit : c.unit < 3

-- The four numbers of a field in a word, the first one in its low byte.
abbrev pub word_in : FieldCode → ℕ
word_in c = c.kind + c.endian * 2 ^ 8 + c.order * 2 ^ 16 + c.unit * 2 ^ 24

-- Each byte of a word would be a number that has a name.
pub record IsSmall (word : ℕ) : Type 0 where
  pub kind : word % 2 ^ 8 < 12
  pub endian : word / 2 ^ 8 % 2 ^ 8 < 2
  pub order : word / 2 ^ 16 % 2 ^ 8 < 2
  pub unit : word / 2 ^ 24 < 3

-- The kinds in the order of their numbers, from zero on.
abbrev pub kinds : List Kind
kinds = U8 ∷ U16 ∷ U32 ∷ U64 ∷ U128 ∷ Usize ∷ I8 ∷ I16 ∷ I32 ∷ I64 ∷ I128 ∷ Isize ∷ []

-- The kind with a number. Beyond the last one it is the last one.
abbrev pub kind_in : ℕ → Kind
kind_in n = slice_index_or kinds n Isize

-- The endian with a number.
abbrev pub endian_in : ℕ → Endian
endian_in zero = Little
endian_in (suc n) = Big

-- The order with a number.
abbrev pub order_in : ℕ → Order
order_in zero = Msb0
order_in (suc n) = Lsb0

-- The size in a unit: all bits of the kind, this many bits, or this many bytes.
abbrev pub size_in : ℕ → ℕ → Size
size_in zero n = Whole
size_in (suc zero) n = Bits n
size_in (suc (suc u)) n = Bytes n

-- The field that a field of C means.
abbrev pub field_in : FieldCode → Field
field_in c = record {
  kind = kind_in c.kind;
  layout = record { endian = endian_in c.endian; order = order_in c.order; size = size_in c.unit c.size };
}

-- The fields that fields of C mean.
abbrev pub fields_in : List FieldCode → List Field
fields_in cs = map field_in cs

-- ---- numbers
-- The number of the low and the high 64 bits, without a sign.
abbrev pub whole : NumberCode → ℕ
whole v = v.low + 2 ^ 64 * v.high

-- The number of 128 bits, for an unsigned kind, or for a signed one in two's complement.
abbrev pub number_in : Bool → ℕ → Number
number_in false n = Unsigned n
number_in true n = Signed (with_sign true 128 n)

-- ---- items
-- A field with its number.
abbrev pub item_in : FieldCode → NumberCode → Item
item_in c v = record { field = field_in c; value = number_in (number_type (kind_in c.kind)).signed (whole v) }

-- Fields with their numbers, in order.
abbrev pub items_in : List FieldCode → List NumberCode → List Item
items_in (c ∷ cs) (v ∷ vs) = item_in c v ∷ items_in cs vs
items_in _ _ = []
