-- What the exported functions do, by the words of lists of fields.
use Rattle.std.specs.Prelude.{◌≡◌, ◌↔◌, ℕ, ◌*◌, ◌<◌, ◌≤◌, ◌^◌, false, List, ◌++◌, length, map, drop, All, Option, Some, Result, Ok, Err}
use Rattle.deku_bits.specs.declared.error.DekuError.{DekuError}
use Rattle.deku_bits.specs.declared.error.DekuError.TheVariants.{Incomplete, Parse, InvalidParam, Assertion, IdVariantNotFound, Io}
use Rattle.deku_bits.specs.Streams.{Stream, fresh}
use Rattle.deku_bits.specs.Pieces.{total}
use Rattle.deku_bits.specs.Standings.{Standing, Going, count_of}
use Rattle.deku_bits.specs.WriterCalls.{Finalizes}
use Rattle.deku.specs.Composing.{Both}
use Rattle.deku.specs.Wholes.{WritesOver}
use Rattle.deku_fields.specs.declared.list.Field.{Field}
use Rattle.deku_fields.specs.declared.list.Item.{Item}
use Rattle.deku_fields.specs.Items.{IsAllowedField, IsFitting, AlignedFields, LaysOut, field_shape, fields_of, values_of}
use Rattle.deku_fields.specs.ListCalls.{ReadsFields, WritesItems}
use Rattle.deku_fields.specs.Promise.{Begins}
use Rattle.deku_plan.specs.Records.{IsReadAt}
use Rattle.deku_c.specs.declared.codes.FieldCode.{FieldCode}
use Rattle.deku_c.specs.declared.codes.NumberCode.{NumberCode}
use Rattle.deku_c.specs.Codes.{IsNamed, field_in, fields_in, item_in, items_in}

-- ---- the status
-- The status of an error.
abbrev pub status_of : DekuError → ℕ
status_of (Incomplete need) = 3
status_of (Parse text) = 4
status_of (InvalidParam text) = 5
status_of (Assertion text) = 6
status_of IdVariantNotFound = 7
status_of (Io kind) = 8

-- The status of a result: 0 for a value.
abbrev pub status_in : Result ℕ DekuError → ℕ
status_in (Ok n) = 0
status_in (Err e) = status_of e

-- What is left in a place for a number: the result's value; or what was there, after an error.
abbrev pub kept_or : ℕ → Result ℕ DekuError → ℕ
kept_or old (Ok n) = n
kept_or old (Err e) = old

-- A result, by its status and by what is left in the place for its value.
pub record Tells (r : Result ℕ DekuError) (status old new : ℕ) : Type 0 where
  pub number : status ≡ status_in r
  pub place : new ≡ kept_or old r

-- Status 1 is that a number of a field has no name, and status 2 that all have names, but there
-- are not as many numbers as fields.
pub record Accepts (cs : List FieldCode) (count status : ℕ) : Type 0 where
  pub unnamed : (status ≡ 1) ↔ (All IsNamed cs → ⊥)
  pub miscounted : (status ≡ 2) ↔ (All IsNamed cs × (count ≡ length cs → ⊥))

-- ---- how many bits
-- Status 0 is that no layout is rejected and the bits can be counted; then this is their count. The
-- only other status is 5, after which the count stays.
pub record Counts (fs : List Field) (status old new : ℕ) : Type 0 where
  pub counted : (status ≡ 0) ↔ (All IsAllowedField fs × (total (map field_shape fs) < 2 ^ 64))
  pub other : (status ≡ 0 → ⊥) → (status ≡ 5) × (new ≡ old)
  pub count : status ≡ 0 → new ≡ total (map field_shape fs)

-- ---- reading
-- After this many bits of the bytes, the field is read as this number, up to this bit.
abbrev pub IsCodeAt : FieldCode → List ℕ → ℕ → NumberCode → ℕ → Type 0
IsCodeAt c bytes bit v end = IsReadAt (field_in c) bytes bit (item_in c v).value end

-- Fields are read from bytes: how many bits, and these numbers; or an error.
abbrev pub ReadsInto : List FieldCode → List ℕ → Result ℕ DekuError → List NumberCode → Type 0
ReadsInto cs bytes (Ok n) vs = (u : Standing (Option Stream))
    × ReadsFields (fields_in cs) false (Going (Some (fresh bytes)) 0) (Ok (values_of (items_in cs vs))) u × (n ≡ count_of u)
ReadsInto cs bytes (Err e) vs = (u : Standing (Option Stream)) × ReadsFields (fields_in cs) false (Going (Some (fresh bytes)) 0) (Err e) u

-- From bytes that begin with what aligned fitting items lay out, whatever follows, the numbers are
-- exactly the items' values, and the bits are those of the fields.
abbrev pub ReadsBackInto : List FieldCode → List ℕ → Result ℕ DekuError → List NumberCode → Type 0
ReadsBackInto cs bytes r vs = (items : List Item) (after : List ℕ) → Begins (fields_in cs) items bytes after
    → total (map field_shape (fields_in cs)) < 2 ^ 64
    → (r ≡ Ok (total (map field_shape (fields_in cs)))) × (values_of (items_in cs vs) ≡ values_of items)

-- What a call of C reads: its status, the numbers, and the count of bits before and after.
pub record ReadsFor (cs : List FieldCode) (bytes : List ℕ) (status : ℕ) (vs : List NumberCode) (old new : ℕ) : Type 0 where
  pub outcome : Result ℕ DekuError
  pub tells : Tells outcome status old new
  pub meaning : ReadsInto cs bytes outcome vs
  pub back : ReadsBackInto cs bytes outcome vs

-- ---- writing
-- Aligned fitting items for which there is room are written as what they lay out, and the bytes
-- after it stay.
abbrev pub LaysOver : List Item → List ℕ → Result ℕ DekuError → List ℕ → Type 0
LaysOver items old r new = All IsFitting items → AlignedFields (fields_of items) → (laid : List ℕ) → LaysOut items laid → length laid ≤ length old
    → 8 * length laid < 2 ^ 64 → (r ≡ Ok (length laid)) × (new ≡ laid ++ drop (length laid) old)

-- What a call of C writes: its status, the bytes before and after, and their count before and
-- after.
pub record WritesFor (items : List Item) (bytes : List ℕ) (status : ℕ) (now : List ℕ) (old new : ℕ) : Type 0 where
  pub outcome : Result ℕ DekuError
  pub tells : Tells outcome status old new
  pub meaning : WritesOver (Both (WritesItems items) Finalizes) bytes outcome now
  pub laid : LaysOver items bytes outcome now
