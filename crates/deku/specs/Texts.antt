-- Texts that end with a zero.
use Rattle.std.specs.Prelude.{◌≡◌, ◌≢◌, ℕ, ◌<◌, Bool, false, List, [], ◌∷◌, ◌++◌, length, Option, Result, Ok, codes}
use Rattle.std.specs.List.{All}
use Rattle.deku_bits.specs.declared.ctx.Order.TheVariants.{Msb0}
use Rattle.deku_bits.specs.declared.error.DekuError.{DekuError}
use Rattle.deku_bits.specs.declared.error.DekuError.TheVariants.{Parse}
use Rattle.deku_bits.specs.Streams.{Stream}
use Rattle.deku_bits.specs.Standings.{Standing}
use Rattle.deku_bits.specs.Outcomes.{Meaning, Refuses}
use Rattle.deku_num.specs.declared.ctx.Endian.TheVariants.{Little}
use Rattle.deku_num.specs.declared.ctx.Size.TheVariants.{Whole}
use Rattle.deku_num.specs.Numbers.{byte}
use Rattle.deku_num.specs.NumberCalls.{ReadsUnsigned}
use Rattle.deku_meanings.specs.Composing.{Then}
use Rattle.deku_reading.specs.Lists.{Runs, Stored}

-- No byte is zero.
abbrev pub NoZeros : List ℕ → Type 0
NoZeros = All (λ b. b ≢ 0)

-- These bytes, none of them zero, and one zero after them.
abbrev pub IsTerminated : List ℕ → List ℕ → Type 0
IsTerminated text bytes = NoZeros text × (bytes ≡ text ++ 0 ∷ [])

-- The text before the zero, if the bytes are a text and a zero. Otherwise it fails. In both cases
-- nothing moves.
pub data Unended {A : Type 0} (bytes : List ℕ) : Bool → Standing A → Result (List ℕ) DekuError → Standing A → Type 0 where
  Text : {s : Standing A} (text : List ℕ) → IsTerminated text bytes → Unended bytes false s (Ok text) s
  NoText : {s u : Standing A} {r : Result (List ℕ) DekuError} → ((text : List ℕ) → IsTerminated text bytes → ⊥) → Refuses Parse (codes "Failed to convert Vec to CString") s r u → Unended bytes false s r u

-- A byte is read, and put in its place.
abbrev pub ReadsByte : Meaning (Option Stream) ℕ
ReadsByte = Stored (ReadsUnsigned byte (record { endian = Little; order = Msb0; size = Whole }))

-- Bytes are read up to the first zero. The value is the text before it.
abbrev pub ReadsTerminated : Meaning (Option Stream) (List ℕ)
ReadsTerminated = Then (Runs NoZeros (λ bytes. (text : List ℕ) × IsTerminated text bytes) ReadsByte) Unended

-- n bytes are read. The value is the text before the zero at their end.
abbrev pub ReadsWithin : ℕ → Meaning (Option Stream) (List ℕ)
ReadsWithin n = Then (Runs (λ bytes. length bytes < n) (λ bytes. length bytes ≡ n) ReadsByte) Unended
