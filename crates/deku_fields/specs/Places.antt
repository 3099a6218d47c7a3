-- The picture of a layout: which bit of which field is where in the bytes that fields lay out.
use Rattle.std.specs.Prelude.{◌≡◌, ◌⊎◌, ℕ, suc, ◌+◌, ◌*◌, ◌-◌, ◌/◌, ◌%◌, ◌^◌, ◌<◌, List, [], ◌∷◌, ◌++◌, length, map, take, All, Option, Some, None, slice_get, slice_index, slice_index_or, codes, ℤ}
use Rattle.std.specs.Option.{option_map_or}
use Rattle.deku_bits.specs.declared.ctx.Order.{Order}
use Rattle.deku_bits.specs.declared.ctx.Order.TheVariants.{Msb0, Lsb0}
use Rattle.deku_bits.specs.declared.error.DekuError.{DekuError}
use Rattle.deku_bits.specs.declared.error.DekuError.TheVariants.{InvalidParam}
use Rattle.deku_bits.specs.Faults.{Tells}
use Rattle.deku_bits.specs.Pieces.{total}
use Rattle.deku_num.specs.NumberLaws.{place, residue}
use Rattle.deku_num.specs.NumberCalls.{beyond, IsLayoutRefusal}
use Rattle.deku_fields.specs.declared.list.Field.{Field}
use Rattle.deku_fields.specs.declared.list.Item.{Item}
use Rattle.deku_fields.specs.declared.picture.Place.{Place}
use Rattle.deku_fields.specs.Items.{number_type, field_width, field_shape, AlignedFields, IsAllowedField, IsFitting, LaysOut, fields_of}
use Rattle.deku_fields.specs.ListCalls.{integer_of}

-- ---- bits as they are printed
-- Where the n-th bit of an order is in bytes that are printed with the high bit of each first.
abbrev pub printed_at : Order → ℕ → ℕ
printed_at Msb0 n = n
printed_at Lsb0 n = 8 * (n / 8) + (7 - n % 8)

-- The k-th bit of bytes that are printed like this.
abbrev pub printed : List ℕ → ℕ → ℕ
printed bytes k = slice_index bytes (k / 8) / 2 ^ (7 - k % 8) % 2

-- Bit b of a whole number in two's complement.
abbrev pub bit_of : ℤ → ℕ → ℕ
bit_of v b = residue v (suc b) / 2 ^ b

-- ---- which bit is where
-- How many bits the fields before the m-th have.
abbrev pub start : List Field → ℕ → ℕ
start fs m = total (take m (map field_shape fs))

-- The bit of a field is at k: in the field's order, after all bits of the fields before it.
pub record Stands (fs : List Field) (k : ℕ) (p : Place) : Type 0 where
  pub holder : Field
  pub there : slice_get fs p.field ≡ Some holder
  pub index : ℕ
  pub below : index < field_width holder
  pub weight : p.bit ≡ place holder.layout.endian holder.layout.order (field_width holder) index
  pub stands : k ≡ printed_at holder.layout.order (start fs p.field + index)

-- What is at k: that bit; or padding, if no bit of a field is there.
abbrev pub IsAt : List Field → ℕ → Option Place → Type 0
IsAt fs k None = (p : Place) → Stands fs k p → ⊥
IsAt fs k (Some p) = Stands fs k p

-- Bit i of the n-th field comes before bit b of the m-th field.
abbrev pub IsBefore : ℕ → ℕ → ℕ → ℕ → Type 0
IsBefore m b n i = (n < m) ⊎ ((n ≡ m) × (i < b))

-- What is at k, if only the bits before bit b of the m-th field were put at their places.
abbrev pub IsMarked : List Field → ℕ → ℕ → ℕ → Option Place → Type 0
IsMarked fs m b k None = (p : Place) (s : Stands fs k p) → IsBefore m b p.field s.index → ⊥
IsMarked fs m b k (Some p) = Stands fs k p

-- ---- what a picture shows
-- A place shows that bit of that item's value, and padding shows zero.
abbrev pub bit_shown : List Item → Option Place → ℕ
bit_shown items None = 0
bit_shown items (Some p) = option_map_or (λ i. bit_of (integer_of i.value) p.bit) (slice_get items p.field) 0

-- Whatever fitting values the fields have, the bytes that they lay out show those bits at these
-- places.
abbrev pub IsPicture : List Field → List (Option Place) → Type 0
IsPicture fs cells = (items : List Item) (bytes : List ℕ) (k : ℕ) → fields_of items ≡ fs → All IsFitting items → LaysOut items bytes → k < length cells
    → printed bytes k ≡ bit_shown items (slice_index_or cells k None)

-- In the bytes that aligned fitting items lay out, a bit of a field is that bit of its value. A bit
-- of no field is zero.
abbrev pub PlaceLaw : Type 0
PlaceLaw = (items : List Item) (bytes : List ℕ) (k : ℕ) (cell : Option Place) → All IsFitting items → AlignedFields (fields_of items) → LaysOut items bytes
    → k < 8 * length bytes → IsAt (fields_of items) k cell → printed bytes k ≡ bit_shown items cell

-- ---- what has no picture
-- No layout is rejected, and the order changes only at byte boundaries.
pub record AreDrawable (fs : List Field) : Type 0 where
  pub allowed : All IsAllowedField fs
  pub aligned : AlignedFields fs

-- The first field without a picture: its layout is rejected, or its order changes inside a byte.
pub record IsUndrawable (fs : List Field) (e : DekuError) : Type 0 where
  pub index : ℕ
  pub holder : Field
  pub there : slice_get fs index ≡ Some holder
  pub before : AreDrawable (take index fs)
  pub why : IsLayoutRefusal InvalidParam (beyond holder.layout.size) (number_type holder.kind) holder.layout e
      ⊎ (IsAllowedField holder × (AlignedFields (take index fs ++ holder ∷ []) → ⊥) × Tells InvalidParam (codes "order changes inside a byte") e)
