-- The words of a command line, and what they name.
use Rattle.std.specs.Prelude.{◌≡◌, ◌⊎◌, ℕ, ◌<◌, ◌≤◌, ◌^◌, true, List, [], ◌∷◌, ◌++◌, codes, pos, neg_ℤ, ⊤}
use Rattle.std.specs.Str.Parse.{IsNumeral, digits_value}
use Rattle.deku_bits.specs.declared.ctx.Order.{Order}
use Rattle.deku_bits.specs.declared.ctx.Order.TheVariants.{Msb0, Lsb0}
use Rattle.deku_num.specs.declared.ctx.Endian.{Endian}
use Rattle.deku_num.specs.declared.ctx.Endian.TheVariants.{Little, Big}
use Rattle.deku_num.specs.declared.ctx.Size.{Size}
use Rattle.deku_num.specs.declared.ctx.Size.TheVariants.{Whole, Bits, Bytes}
use Rattle.deku_fields.specs.declared.list.Kind.{Kind}
use Rattle.deku_fields.specs.declared.list.Kind.TheVariants.{U8, U16, U32, U64, U128, Usize, I8, I16, I32, I64, I128, Isize}
use Rattle.deku_fields.specs.declared.list.Number.{Number}
use Rattle.deku_fields.specs.declared.list.Number.TheVariants.{Unsigned, Signed}
use Rattle.deku_fields.specs.declared.list.Field.{Field}
use Rattle.deku_fields.specs.declared.list.Item.{Item}
use Rattle.deku_fields.specs.Items.{number_type}

-- The name of a kind.
abbrev pub kind_name : Kind → List ℕ
kind_name U8 = codes "u8"
kind_name U16 = codes "u16"
kind_name U32 = codes "u32"
kind_name U64 = codes "u64"
kind_name U128 = codes "u128"
kind_name Usize = codes "usize"
kind_name I8 = codes "i8"
kind_name I16 = codes "i16"
kind_name I32 = codes "i32"
kind_name I64 = codes "i64"
kind_name I128 = codes "i128"
kind_name Isize = codes "isize"

-- A count, in decimal digits only.
abbrev pub NamesCount : List ℕ → ℕ → Type 0
NamesCount text n = IsNumeral 10 text × (n ≡ digits_value 10 text) × (n < 2 ^ 64)

-- A number in decimal digits, with or without a minus. Without a minus it is signed for a signed
-- kind if it can be.
pub data NamesNumber (kind : Kind) (text : List ℕ) : Number → Type 0 where
  Negative : (digits : List ℕ) → text ≡ codes "-" ++ digits → IsNumeral 10 digits → digits_value 10 digits ≤ 2 ^ 127
      → NamesNumber kind text (Signed (neg_ℤ (pos (digits_value 10 digits))))
  Positive : IsNumeral 10 text → (number_type kind).signed ≡ true → digits_value 10 text < 2 ^ 127 → NamesNumber kind text (Signed (pos (digits_value 10 text)))
  Plain : IsNumeral 10 text → ((number_type kind).signed ≡ true → 2 ^ 127 ≤ digits_value 10 text) → digits_value 10 text < 2 ^ 128
      → NamesNumber kind text (Unsigned (digits_value 10 text))

-- One of two options; or none, which means the second.
abbrev pub NamesOption : {T : Type 0} → List ℕ → T → List ℕ → T → List ℕ → T → Type 0
NamesOption first a second b text t = ((text ≡ first) × (t ≡ a)) ⊎ (((text ≡ second) ⊎ (text ≡ [])) × (t ≡ b))

-- An endian after a comma. Without one it is little.
abbrev pub NamesEndian : List ℕ → Endian → Type 0
NamesEndian text e = NamesOption (codes ",big") Big (codes ",little") Little text e

-- An order after a comma. Without one it is `Msb0`.
abbrev pub NamesOrder : List ℕ → Order → Type 0
NamesOrder text o = NamesOption (codes ",lsb") Lsb0 (codes ",msb") Msb0 text o

-- A count after a unit.
abbrev pub CountsBehind : List ℕ → List ℕ → ℕ → Type 0
CountsBehind unit text n = (digits : List ℕ) × (text ≡ unit ++ digits) × NamesCount digits n

-- A size after a comma, in bits or in bytes. Without one it is all bits of the kind.
abbrev pub NamesSize : List ℕ → Size → Type 0
NamesSize text s = ((text ≡ []) × (s ≡ Whole)) ⊎ ((n : ℕ) × CountsBehind (codes ",bits") text n × (s ≡ Bits n))
    ⊎ ((n : ℕ) × CountsBehind (codes ",bytes") text n × (s ≡ Bytes n))

-- A field: its kind, and then its endian, its order and its size, each of which is optional.
pub record NamesField (word : List ℕ) (f : Field) : Type 0 where
  pub endian : List ℕ
  pub order : List ℕ
  pub size : List ℕ
  pub parts : word ≡ kind_name f.kind ++ (endian ++ (order ++ size))
  pub endian_named : NamesEndian endian f.layout.endian
  pub order_named : NamesOrder order f.layout.order
  pub size_named : NamesSize size f.layout.size

-- An item: a field, `=` and its value.
pub record NamesItem (word : List ℕ) (i : Item) : Type 0 where
  pub field : List ℕ
  pub value : List ℕ
  pub parts : word ≡ field ++ (codes "=" ++ value)
  pub field_named : NamesField field i.field
  pub value_named : NamesNumber i.field.kind value i.value

-- ---- steps of parsing
-- Nothing, or a text that begins with a comma.
abbrev pub BeginsOption : List ℕ → Type 0
BeginsOption [] = ⊤
BeginsOption (c ∷ cs) = codes "," ≡ c ∷ []

-- The text does not begin with the other.
abbrev pub LacksFront : List ℕ → List ℕ → Type 0
LacksFront front text = (rest : List ℕ) → text ≡ front ++ rest → ⊥

-- One of two options is before the rest. Or none is, which means the second.
abbrev pub SplitsOption : {T : Type 0} → List ℕ → T → List ℕ → T → List ℕ → T → List ℕ → Type 0
SplitsOption first a second b text t rest = ((text ≡ first ++ rest) × (t ≡ a)) ⊎ ((text ≡ second ++ rest) × (t ≡ b))
    ⊎ ((text ≡ rest) × (t ≡ b) × LacksFront first text × LacksFront second text)

-- An endian is before the rest. Without one it is little.
abbrev pub SplitsEndian : List ℕ → Endian → List ℕ → Type 0
SplitsEndian text e rest = SplitsOption (codes ",big") Big (codes ",little") Little text e rest

-- An order is before the rest. Without one it is `Msb0`.
abbrev pub SplitsOrder : List ℕ → Order → List ℕ → Type 0
SplitsOrder text o rest = SplitsOption (codes ",lsb") Lsb0 (codes ",msb") Msb0 text o rest
