-- What is read of parts, with the place of the reading: how many parts were read, and where the one
-- begins that is next or was the last.
use Rattle.std.specs.Prelude.{◌≡◌, ◌+◌, ◌-◌, ◌<◌, ℕ, Bool, true, false, List, Option, Result, Ok, Err, MatchResult}
use Rattle.std.specs.Borrow.{Bor}
use Rattle.deku_bits.specs.declared.error.DekuError.{DekuError}
use Rattle.deku_bits.specs.declared.error.DekuError.TheVariants.{Assertion}
use Rattle.deku_bits.specs.Streams.{Stream}
use Rattle.deku_bits.specs.Standings.{Standing, count_of}
use Rattle.deku_bits.specs.Outcomes.{Meaning, Mapped}
use Rattle.deku_pieces.specs.declared.assertion.Assert.{Assert}
use Rattle.deku_located.specs.declared.steps.Place.{Place}

-- What parts return and leave after so many others, and the place then.
abbrev pub Placed : Type 0 → Type 1
Placed V = ℕ → Place → Meaning (Option Stream) V

-- One part: it begins at the current bit, and is counted if it is read.
pub record Alone {V : Type 0} (m : Meaning (Option Stream) V) (before : ℕ) (place : Place) (b : Bool) (s : Standing (Option Stream)) (r : Result V DekuError) (u : Standing (Option Stream)) : Type 0 where
  pub reads : m b s r u
  pub begins : place.bit ≡ count_of s
  pub counts : MatchResult r (λ _. place.parts ≡ before + 1) (λ _. place.parts ≡ before)

-- Parts, and those after them, of whose values h makes one. The place of an error is that in the
-- part that is refused.
pub data Joined {V W X : Type 0} (h : V → W → X) (m : Placed V) (k : V → Placed W) (before : ℕ) (place : Place) (b : Bool) (s : Standing (Option Stream)) (r : Result X DekuError) (u : Standing (Option Stream)) : Type 0 where
  Second : (middle : Place) (v : V) (t : Standing (Option Stream)) → m before middle false s (Ok v) t → Mapped (h v) (k v middle.parts place) b t r u → Joined h m k before place b s r u
  First : (e : DekuError) → m before place b s (Err e) u → r ≡ Err e → Joined h m k before place b s r u

-- Parts and a check of them. If they do not pass it, the last of them is refused.
pub data Judged {V C : Type 0} (passes : V → Bool) (text : List ℕ) (m : Placed V) (before : ℕ) (place : Place) (b : Bool) (s : Standing (Option Stream)) (r : Result (Assert V C) DekuError) (u : Standing (Option Stream)) : Type 0 where
  Passing : (v : V) → m before place b s (Ok v) u → passes v ≡ true → r ≡ Ok (record { part = v; check = record {} }) → Judged passes text m before place b s r u
  Failing : (last : Place) (v : V) → m before last false s (Ok v) u → b ≡ false → passes v ≡ false → (words : Bor (List ℕ)) → words.now ≡ text → r ≡ Err (Assertion words)
      → place ≡ record { parts = last.parts - 1; bit = last.bit } → Judged passes text m before place b s r u
  Unread : (e : DekuError) → m before place b s (Err e) u → r ≡ Err e → Judged passes text m before place b s r u

-- All parts are counted, at least one, if they are read, and fewer if one is refused.
abbrev pub Counts : {V : Type 0} → ℕ → ℕ → Place → Result V DekuError → Type 0
Counts steps before place r = MatchResult r (λ _. (place.parts ≡ before + steps) × (before < place.parts)) (λ _. place.parts < before + steps)
