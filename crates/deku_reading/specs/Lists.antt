-- How lists of items are read.
use Rattle.std.specs.Prelude.{◌≡◌, ℕ, zero, suc, Bool, false, List, [], ◌∷◌, Result, Ok, Err}
use Rattle.deku_bits.specs.declared.error.DekuError.{DekuError}
use Rattle.deku_bits.specs.Standings.{Standing}
use Rattle.deku_bits.specs.Outcomes.{Meaning, Mapped}
use Rattle.deku_num.specs.NumberCalls.{Checked}
use Rattle.deku_meanings.specs.Composing.{Answer, Then}
use Rattle.deku_meanings.specs.Shapes.{LacksMemory}

-- n items are read one after the other.
abbrev pub ReadsTimes : {A V : Type 0} → ℕ → Meaning A V → Meaning A (List V)
ReadsTimes zero m = Answer []
ReadsTimes (suc n) m = Then m (λ v. Mapped (λ vs. v ∷ vs) (ReadsTimes n m))

-- A result, with h applied to its value.
abbrev pub on_value : {V W : Type 0} → (V → W) → Result V DekuError → Result W DekuError
on_value h (Ok v) = Ok (h v)
on_value h (Err e) = Err e

-- m, of the value that h gives.
abbrev pub Seen : {A V W : Type 0} → (V → W) → Meaning A W → Meaning A V
Seen h m b s r u = m b s (on_value h r) u

-- These items are returned one after the other.
abbrev pub AnswersEach : {A V : Type 0} → Meaning A V → List V → Standing A → Standing A → Type 0
AnswersEach m [] s u = u ≡ s
AnswersEach {A} m (v ∷ vs) s u = (t : Standing A) × m false s (Ok v) t × AnswersEach m vs t u

-- Items are read one after the other: until the list is one that ends, or until the next item
-- fails, after a list that goes on.
pub data Runs {A V : Type 0} (goes ends : List V → Type 0) (m : Meaning A V) (b : Bool) (s : Standing A) (r : Result (List V) DekuError) (u : Standing A) : Type 0 where
  Until : (vs : List V) → AnswersEach m vs s u → ends vs → b ≡ false → r ≡ Ok vs → Runs goes ends m b s r u
  NextRefused : (vs : List V) (t : Standing A) (e : DekuError) → AnswersEach m vs s t → goes vs → m b t (Err e) u → r ≡ Err e → Runs goes ends m b s r u

-- m, and then its value is put in its place in memory that grows; or there is no memory.
abbrev pub Stored : {A V : Type 0} → Meaning A V → Meaning A V
Stored m = Then m (λ v. Checked LacksMemory (Answer v))
