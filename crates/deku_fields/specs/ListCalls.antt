-- What the calls on lists of fields do.
use Rattle.std.specs.Prelude.{◌≡◌, ◌⊎◌, ℕ, Bool, true, false, List, [], ◌∷◌, Option, Some, Result, Ok, Err, codes, ℤ, pos, negsuc}
use Rattle.std.specs.Global.{Vec}
use Rattle.deku_bits.specs.declared.error.DekuError.{DekuError}
use Rattle.deku_bits.specs.declared.error.DekuError.TheVariants.{InvalidParam, Io}
use Rattle.std.specs.declared.io.ErrorKind.TheVariants.{OutOfMemory}
use Rattle.deku_bits.specs.Streams.{Stream, fresh}
use Rattle.deku_bits.specs.Standings.{Standing, Going, Output, count_of}
use Rattle.deku_bits.specs.Outcomes.{Meaning, Refuses, Mapped}
use Rattle.deku_num.specs.NumberLaws.{InType}
use Rattle.deku_num.specs.NumberCalls.{Checked, ReadsNumber, WritesNumber}
use Rattle.deku.specs.Composing.{Answer, Then}
use Rattle.deku.specs.Wholes.{in_memory}
use Rattle.deku_fields.specs.declared.list.Number.{Number}
use Rattle.deku_fields.specs.declared.list.Number.TheVariants.{Unsigned, Signed}
use Rattle.deku_fields.specs.declared.list.Kind.{Kind}
use Rattle.deku_fields.specs.declared.list.Field.{Field}
use Rattle.deku_fields.specs.declared.list.Item.{Item}
use Rattle.deku_fields.specs.Items.{number_type}

-- ---- reading
-- An integer as a number of an unsigned kind, or of a signed one.
abbrev pub number_of : Bool → ℤ → Number
number_of false (pos n) = Unsigned n
number_of false (negsuc n) = Unsigned 0
number_of true z = Signed z

-- A field is read.
abbrev pub ReadsField : Field → Meaning (Option Stream) Number
ReadsField f = Mapped (number_of (number_type f.kind).signed) (ReadsNumber (number_type f.kind) f.layout)

-- Fields are read one after the other.
abbrev pub ReadsFields : List Field → Meaning (Option Stream) (List Number)
ReadsFields [] = Answer []
ReadsFields (f ∷ fs) = Then (ReadsField f) (λ n. Mapped (λ ns. n ∷ ns) (ReadsFields fs))

-- ---- writing
-- A number as an integer.
abbrev pub integer_of : Number → ℤ
integer_of (Unsigned n) = pos n
integer_of (Signed z) = z

-- Whether a number is one of a signed kind.
abbrev pub has_sign : Number → Bool
has_sign (Unsigned n) = false
has_sign (Signed z) = true

-- A number is of a kind: it is signed or unsigned as the kind is, and it is in its range.
abbrev pub IsOfKind : Kind → Number → Type 0
IsOfKind k n = (has_sign n ≡ (number_type k).signed) × InType (number_type k).signed (number_type k).bits (integer_of n)

-- An item is written: its value is checked, and then written as a number.
abbrev pub WritesItem : Item → Meaning Output (Unit {0})
WritesItem i = Checked (λ s r u. (IsOfKind i.field.kind i.value → ⊥) × Refuses InvalidParam (codes "value outside type") s r u)
    (λ b s r u. IsOfKind i.field.kind i.value × WritesNumber (number_type i.field.kind) i.field.layout (integer_of i.value) b s r u)

-- Items are written one after the other.
abbrev pub WritesItems : List Item → Meaning Output (Unit {0})
WritesItems [] = Answer tt
WritesItems (i ∷ is) = Then (WritesItem i) (λ _. WritesItems is)

-- The outcome of m, from nothing written, to memory that grows.
abbrev pub WritesWhole : Meaning Output (Unit {0}) → Result (Vec ℕ) DekuError → Type 0
WritesWhole m (Ok v) = (out : Output) × (c : ℕ) × m false (Going in_memory 0) (Ok tt) (Going out c) × (out.taken ≡ Some v.items)
WritesWhole m (Err e) = (u : Standing Output) × m false (Going in_memory 0) (Err e) u

-- Fields are read into memory that is taken first. If there is none, it fails, and nothing changes.
abbrev pub ReadsList : List Field → Meaning (Option Stream) (List Number)
ReadsList fs b s r u = ((b ≡ false) × (r ≡ Err (Io OutOfMemory)) × (u ≡ s)) ⊎ ReadsFields fs b s r u

-- How many bits fields read from bytes, and their values, in memory that is taken first.
abbrev pub ListFrom : List Field → List ℕ → Result (ℕ × Vec Number) DekuError → Type 0
ListFrom fs bytes (Ok v) = (u : Standing (Option Stream)) × ReadsList fs false (Going (Some (fresh bytes)) 0) (Ok v.1.items) u × (v.0 ≡ count_of u)
ListFrom fs bytes (Err e) = (u : Standing (Option Stream)) × ReadsList fs false (Going (Some (fresh bytes)) 0) (Err e) u
