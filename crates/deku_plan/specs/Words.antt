-- Plans of the fields that words name, and words that make none.
use Rattle.std.specs.Prelude.{◌≡◌, ◌⊎◌, ℕ, List, take, slice_get, Some, All}
use Rattle.std.specs.List.{AllZip}
use Rattle.std.specs.Borrow.{Bor}
use Rattle.std.specs.declared.io.ErrorKind.TheVariants.{OutOfMemory}
use Rattle.deku_bits.specs.declared.error.DekuError.TheVariants.{InvalidParam, Io}
use Rattle.deku_num.specs.NumberCalls.{beyond, IsLayoutRefusal}
use Rattle.deku_fields.specs.declared.list.Field.{Field}
use Rattle.deku_fields.specs.Items.{number_type, IsAllowedField}
use Rattle.deku_fields.specs.Naming.{NamesField}
use Rattle.deku_plan.specs.declared.plan.WrongWords.{WrongWords}
use Rattle.deku_plan.specs.declared.plan.WrongWords.TheVariants.{NoField, Rejected, Fault}
use Rattle.deku_plan.specs.Plans.{AreTooMany}

-- A word names a field.
abbrev pub Names : Bor (List ℕ) → Field → Type 0
Names word f = NamesField word.now f

-- Words name fields, one each.
abbrev pub AreNamed : List (Bor (List ℕ)) → List Field → Type 0
AreNamed words fs = AllZip Names words fs

-- The words before an index name fields whose layouts are not rejected.
abbrev pub AreRight : List (Bor (List ℕ)) → ℕ → Type 0
AreRight words i = (fs : List Field) × AreNamed (take i words) fs × All IsAllowedField fs

-- Why words make no plan: the first wrong word; or they name fields, of which the bits cannot be
-- counted or for which there is no memory.
abbrev pub AreWrong : List (Bor (List ℕ)) → WrongWords → Type 0
AreWrong words (NoField i) = AreRight words i × ((word : Bor (List ℕ)) × (slice_get words i ≡ Some word) × ((f : Field) → NamesField word.now f → ⊥))
AreWrong words (Rejected i e) = AreRight words i × ((word : Bor (List ℕ)) × (slice_get words i ≡ Some word)
    × ((f : Field) × NamesField word.now f × IsLayoutRefusal InvalidParam (beyond f.layout.size) (number_type f.kind) f.layout e))
AreWrong words (Fault e) = (e ≡ Io OutOfMemory) ⊎ ((fs : List Field) × AreNamed words fs × AreTooMany fs e)
