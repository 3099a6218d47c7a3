-- Records in a row in bytes.
use Rattle.std.specs.Prelude.{◌≡◌, ◌⊎◌, ℕ, zero, suc, ◌+◌, ◌*◌, ◌<◌, ◌≤◌, ◌^◌, false, List, [], ◌∷◌, ◌++◌, All, Result, Ok, Err, IfOk, Some, map, length, slice_get, slice_index_or, Option, ⊤}
use Rattle.std.specs.declared.io.ErrorKind.TheVariants.{OutOfMemory}
use Rattle.deku_bits.specs.declared.error.DekuError.{DekuError}
use Rattle.deku_bits.specs.declared.error.DekuError.TheVariants.{Io}
use Rattle.deku_bits.specs.declared.ctx.Order.TheVariants.{Msb0}
use Rattle.deku_bits.specs.Streams.{Stream, taken, left, fresh}
use Rattle.deku_bits.specs.Pieces.{total}
use Rattle.deku_bits.specs.Standings.{Standing, Going}
use Rattle.deku_fields.specs.declared.list.Number.{Number}
use Rattle.deku_fields.specs.declared.list.Number.TheVariants.{Unsigned}
use Rattle.deku_fields.specs.declared.list.Field.{Field}
use Rattle.deku_fields.specs.declared.list.Item.{Item}
use Rattle.deku_fields.specs.Items.{field_width, field_shape, IsAllowedField, IsWorth, ReadsValues, values_of}
use Rattle.deku_fields.specs.ListCalls.{ReadsField, ReadsFields}
use Rattle.deku_fields.specs.Promise.{Begins}
use Rattle.deku_plan.specs.Plans.{IsHigh}

-- The fields of this many records, one after the other.
abbrev pub records : ℕ → List Field → List Field
records zero fs = []
records (suc n) fs = fs ++ records n fs

-- What the fields read from bytes, and whatever reader is left.
abbrev pub ReadsAll : List Field → List ℕ → Result (List Number) DekuError → Type 0
ReadsAll fs bytes r = (u : Standing (Option Stream)) × ReadsFields fs false (Going (Some (fresh bytes)) 0) r u

-- From bytes that begin with what aligned fitting items lay out, whatever follows, the fields read
-- exactly the items' values.
abbrev pub ReadsBackAll : List Field → List ℕ → Result (List Number) DekuError → Type 0
ReadsBackAll fs bytes r = (items : List Item) (after : List ℕ) → Begins fs items bytes after → total (map field_shape fs) < 2 ^ 64
    → r ≡ Ok (values_of items)

-- From any bytes, values that are returned are those that the fields read from them.
abbrev pub FindsAll : List Field → List ℕ → Result (List Number) DekuError → Type 0
FindsAll fs bytes r = IfOk r (λ ns. All IsAllowedField fs × ((rest : Stream) × ReadsValues fs (fresh bytes) ns rest))

-- ---- one field of each record
-- Of values in groups of n, those at place i of each group.
abbrev pub IsColumn : ℕ → ℕ → List Number → List Number → Type 0
IsColumn n i ns column = (k : ℕ) → k < length column → slice_get column k ≡ slice_get ns (k * n + i)

-- Values for which P holds are there, of which this is the column of the field at index i; or P
-- holds for the error.
abbrev pub HasColumn : List Field → ℕ → (Result (List Number) DekuError → Type 0) → Result (List Number) DekuError → Type 0
HasColumn fs i P (Ok column) = (ns : List Number) × P (Ok ns) × IsColumn (length fs) i ns column
HasColumn fs i P (Err e) = P (Err e)

-- What the fields of this many records read from bytes, of the field at index i; or out of memory.
abbrev pub ReadsColumn : List Field → ℕ → ℕ → List ℕ → Result (List Number) DekuError → Type 0
ReadsColumn fs count i bytes r = (r ≡ Err (Io OutOfMemory)) ⊎ HasColumn fs i (ReadsAll (records count fs) bytes) r

-- ---- values that are cut from bytes
-- A field in `Msb0` of at least one bit and at most 64.
pub record IsStraight (f : Field) : Type 0 where
  pub high : f.layout.order ≡ Msb0
  pub some : 0 < field_width f
  pub few : field_width f ≤ 64

-- The fields that begin at a bit of the bytes, in `Msb0`, have these values.
abbrev pub AreAt : List Field → List ℕ → ℕ → List Number → Type 0
AreAt [] bytes bit [] = ⊤
AreAt (f ∷ fs) bytes bit (n ∷ ns) = IsWorth f (taken Msb0 (field_width f) (left Msb0 bit (fresh bytes))) n × AreAt fs bytes (bit + field_width f) ns
AreAt _ bytes bit _ = ⊥

-- After this many bits of the bytes in `Msb0`, the field is read as this value, up to this bit.
abbrev pub IsReadAt : Field → List ℕ → ℕ → Number → ℕ → Type 0
IsReadAt f bytes bit n end = ReadsField f false (Going (Some (left Msb0 bit (fresh bytes))) bit) (Ok n) (Going (Some (left Msb0 end (fresh bytes))) end)

-- After this many bits of the bytes, each unsigned field of this width that is big and `Msb0` is
-- read as this number, up to this bit, unless its layout is rejected.
abbrev pub IsHighAt : List ℕ → ℕ → ℕ → ℕ → ℕ → Type 0
IsHighAt bytes bit width n end = (f : Field) → IsHigh f → IsAllowedField f → field_width f ≡ width → IsReadAt f bytes bit (Unsigned n) end

-- The field that begins at this bit of each record, all of as many bits, has the first n of these
-- values.
abbrev pub AreFirstAt : Field → List ℕ → ℕ → ℕ → ℕ → List Number → Type 0
AreFirstAt f bytes bits first n ns = (k : ℕ) (d : Number) → k < n → IsWorth f (taken Msb0 (field_width f) (left Msb0 (k * bits + first) (fresh bytes))) (slice_index_or ns k d)

-- The field that begins at this bit of each record has these values.
abbrev pub AreEachAt : Field → List ℕ → ℕ → ℕ → List Number → Type 0
AreEachAt f bytes bits first ns = AreFirstAt f bytes bits first (length ns) ns
