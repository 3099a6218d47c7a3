-- Parts that are read one after the other, with their places.
use Rattle.std.proofs.Common.{◌≡◌, ℕ, ◌+◌, ◌-◌, Bool, true, false, List, Option, Result, Ok, Err, refl}
use Rattle.std.specs.Prelude.{MatchResult}
use Rattle.std.specs.Borrow.{Bor}
use Rattle.deku_bits.specs.declared.error.DekuError.{DekuError}
use Rattle.deku_bits.specs.declared.error.DekuError.TheVariants.{Assertion}
use Rattle.deku_bits.specs.Streams.{Stream}
use Rattle.deku_bits.specs.Devices.{Health}
use Rattle.deku_bits.specs.Standings.{Standing, count_of}
use Rattle.deku_bits.specs.Outcomes.{Meaning, Outcome, Quiet, Broken, Mapped}
use Rattle.deku_bits.proofs.Handing.{broken_at, meant, no_fewer_on, more_on}
use Rattle.deku_located.specs.declared.steps.Place.{Place}
use Rattle.deku_located.specs.Placed.{Placed, Alone, Joined, Second, First, Judged, Passing, Failing, Unread}

-- one part
pub alone_on : {V : Type 0} {m : Meaning (Option Stream) V} {i : ℕ} {p : Place} {s : Standing (Option Stream)} {f : Health} {r : Result V DekuError} {u : Standing (Option Stream)} {g : Health}
    → p.bit ≡ count_of s → MatchResult r (λ _. p.parts ≡ i + 1) (λ _. p.parts ≡ i) → Outcome m s f r u g → Outcome (Alone m i p) s f r u g
alone_on b c (Quiet a k) = Quiet (record { reads = a; begins = b; counts = c }) k
alone_on b c (Broken x a k) = Broken x (record { reads = a; begins = b; counts = c }) k

-- the first parts are refused
pub joined_first : {V W X : Type 0} {h : V → W → X} {m : Placed V} {k : V → Placed W} {i : ℕ} {p : Place} {s : Standing (Option Stream)} {f : Health} {e : DekuError} {u : Standing (Option Stream)} {g : Health}
    → Outcome (m i p) s f (Err e) u g → Outcome (Joined h m k i p) s f (Err e) u g
joined_first {e} (Quiet a b) = Quiet (First e a refl) b
joined_first {e} (Broken x a b) = Broken (broken_at x) (First e a refl) b

-- the first parts are read, and then the others return
pub joined_on : {V W X : Type 0} {h : V → W → X} {m : Placed V} {k : V → Placed W} {i : ℕ} {p : Place} {s : Standing (Option Stream)} {f : Health} {v : V} {t : Standing (Option Stream)} {g : Health} {r : Result X DekuError} {u : Standing (Option Stream)} {z : Health} (q : Place)
    → Outcome (m i q) s f (Ok v) t g → Outcome (Mapped (h v) (k v q.parts p)) t g r u z → Outcome (Joined h m k i p) s f r u z
joined_on {f} {v} {t} {g} {z} q a (Quiet b c) = let d = meant a in Quiet (Second q v t d.0 b) (no_fewer_on f g z d.1 c)
joined_on {f} {v} {t} {g} {z} q a (Broken x b c) = let d = meant a in Broken x (Second q v t d.0 b) (more_on f g z d.1 c)

-- parts that are refused before their check
pub unread : {V C : Type 0} {passes : V → Bool} {text : List ℕ} {m : Placed V} {i : ℕ} {p : Place} {s : Standing (Option Stream)} {f : Health} {e : DekuError} {u : Standing (Option Stream)} {g : Health}
    → Outcome (m i p) s f (Err e) u g → Outcome (Judged {C = C} passes text m i p) s f (Err e) u g
unread {e} (Quiet a b) = Quiet (Unread e a refl) b
unread {e} (Broken x a b) = Broken (broken_at x) (Unread e a refl) b

-- parts that pass
pub passed : {V C : Type 0} {passes : V → Bool} {text : List ℕ} {m : Placed V} {i : ℕ} {p : Place} {s : Standing (Option Stream)} {f : Health} {v : V} {u : Standing (Option Stream)} {g : Health}
    → passes v ≡ true → Outcome (m i p) s f (Ok v) u g → Outcome (Judged {C = C} passes text m i p) s f (Ok (record { part = v; check = record {} })) u g
passed {v} e o = let d = meant o in Quiet (Passing v d.0 e refl) d.1

-- parts that do not pass
pub failed : {V C : Type 0} {passes : V → Bool} {text : List ℕ} {m : Placed V} {i : ℕ} {p : Place} {s : Standing (Option Stream)} {f : Health} {v : V} {u : Standing (Option Stream)} {g : Health} (q : Place) (words : Bor (List ℕ))
    → words.now ≡ text → passes v ≡ false → p ≡ record { parts = q.parts - 1; bit = q.bit } → Outcome (m i q) s f (Ok v) u g → Outcome (Judged {C = C} passes text m i p) s f (Err (Assertion words)) u g
failed {v} q words w e is o = let d = meant o in Quiet (Failing q v d.0 refl e words w refl is) d.1
