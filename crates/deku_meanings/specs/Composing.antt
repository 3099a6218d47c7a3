-- How the meanings of items make that of a composite. Reading and writing both use these.
use Rattle.std.specs.Prelude.{◌≡◌, Bool, false, Result, Ok, Err}
use Rattle.deku_bits.specs.declared.error.DekuError.{DekuError}
use Rattle.deku_bits.specs.Standings.{Standing}
use Rattle.deku_bits.specs.Outcomes.{Meaning}

-- This value is returned, and nothing moves.
pub data Answer {A V : Type 0} (v : V) : Bool → Standing A → Result V DekuError → Standing A → Type 0 where
  Answered : {s : Standing A} → Answer v false s (Ok v) s

-- First m, and then what k says of its value. If m fails, the error is that of m, and what m moved
-- stays moved.
pub data Then {A V W : Type 0} (m : Meaning A V) (k : V → Meaning A W) (b : Bool) (s : Standing A) (r : Result W DekuError) (u : Standing A) : Type 0 where
  Second : (v : V) (t : Standing A) → m false s (Ok v) t → k v b t r u → Then m k b s r u
  First : (e : DekuError) → m b s (Err e) u → r ≡ Err e → Then m k b s r u

-- Two values, of which the first is read first, and h of them.
abbrev pub JoinedBy : {A V W X : Type 0} → (V → W → X) → Meaning A V → Meaning A W → Meaning A X
JoinedBy h m n = Then m (λ v. Then n (λ w. Answer (h v w)))

-- Two values, of which the first is read first.
abbrev pub PairOf : {A V W : Type 0} → Meaning A V → Meaning A W → Meaning A (V × W)
PairOf m n = JoinedBy (λ v w. (v, w)) m n

-- Two calls without a value, one after the other.
abbrev pub Both : {A : Type 0} → Meaning A (Unit {0}) → Meaning A (Unit {0}) → Meaning A (Unit {0})
Both m n = Then m (λ _. n)
