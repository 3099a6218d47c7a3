-- Outcomes that are handed on from one call to the next.
use Rattle.std.proofs.Common.{◌≡◌, ℕ, Bool, true, false, List, ◌∷◌, Some, Result, Ok, Err, IsErrAnd, refl, inl, inr, arith}
use Rattle.std.proofs.lemmas.Result.{err_from_is_err_and}
use Rattle.std.specs.Borrow.{GName}
use Rattle.std.specs.declared.io.ErrorKind.TheVariants.{OutOfMemory}
use Rattle.deku_stream.specs.declared.error.DekuError.{DekuError}
use Rattle.deku_stream.specs.declared.error.DekuError.TheVariants.{Io}
use Rattle.deku_device.specs.Devices.{Health, DeviceKept}
use Rattle.deku_stream.specs.Standings.{Standing, Going, Stopped}
use Rattle.deku_stream.specs.Outcomes.{Meaning, Faults, Outcome, Quiet, Broken, Unknown, UnlessStopped, CountsBits, Reserving, Mapped, Value, Refusal}
use Rattle.deku_stream.specs.Kept.{Admits}
pub use Rattle.deku_device.proofs.Failures.{no_fewer_on, more_on, no_fewer_same}

-- ---- outcomes
-- a fault of the device is no value
pub no_ok : {A V : Type 0} {v : V} {u : Standing A} → Faults (Ok v) u → ⊥
no_ok a = let e = a.answered in cc

-- the same fault of the device, at another type of values
pub broken_at : {A V W : Type 0} {e : DekuError} {u : Standing A} → Faults {V = V} (Err e) u → Faults {V = W} (Err e) u
broken_at a = let e = a.answered in record { kind = a.kind; count = a.count; left = a.left; answered = cc; kept = a.kept }

-- what a `?` hands on
pub passed_on : {A V : Type 0} {m : Meaning A V} {s : Standing A} {f : Health} {e : DekuError} {u : Standing A} {g : Health} (r : Result V DekuError)
    → IsErrAnd r (λ x. x ≡ e) → Outcome m s f (Err e) u g → Outcome m s f r u g
passed_on r h o = let p = err_from_is_err_and r h in rw (p.1, p.2) o

-- a value that was returned, with h on it
pub mapped_ok : {A V W : Type 0} (h : V → W) {m : Meaning A V} {s : Standing A} {f : Health} {v : V} {u : Standing A} {g : Health}
    → Outcome m s f (Ok v) u g → Outcome (Mapped h m) s f (Ok (h v)) u g
mapped_ok h {v} (Quiet p q) = Quiet (Value v p refl) q
mapped_ok h (Broken a p q) = absurd (no_ok a)

-- a refusal, where values have h on them
pub mapped_err : {A V W : Type 0} (h : V → W) {m : Meaning A V} {s : Standing A} {f : Health} {e : DekuError} {u : Standing A} {g : Health}
    → Outcome m s f (Err e) u g → Outcome (Mapped h m) s f (Err e) u g
mapped_err h {e} (Quiet p q) = Quiet (Refusal e p refl) q
mapped_err h {e} (Broken a p q) = Broken (broken_at a) (Refusal e p refl) q

-- what was returned by the meaning where a value was
pub meant : {A V : Type 0} {m : Meaning A V} {s : Standing A} {f : Health} {v : V} {u : Standing A} {g : Health}
    → Outcome m s f (Ok v) u g → m false s (Ok v) u × DeviceKept f g
meant (Quiet p q) = (p, q)
meant (Broken a p q) = absurd (no_ok a)

-- another meaning that says no less
pub weaker : {A V : Type 0} (m n : Meaning A V) (s : Standing A) (f : Health) (r : Result V DekuError) (u : Standing A) (g : Health)
    → ((b : Bool) → m b s r u → n b s r u) → Outcome m s f r u g → Outcome n s f r u g
weaker m n s f r u g h (Quiet p q) = Quiet (h false p) q
weaker m n s f r u g h (Broken a p q) = Broken a (h true p) q

-- the references on the way to the device stay
pub lenders_stay : {A V : Type 0} {m : Meaning A V} {s : Standing A} {f : Health} {r : Result V DekuError} {u : Standing A} {g : Health}
    → Outcome m s f r u g → g.lenders ≡ f.lenders
lenders_stay (Quiet p q) = q.lenders
lenders_stay (Broken a p q) = q.lenders

-- a device that reports that no call failed broke nothing
pub unbroken : {A V : Type 0} {m : Meaning A V} {s : Standing A} {f : Health} {r : Result V DekuError} {u : Standing A} {g : Health}
    → f.failures ≡ Some 0 → g.failures ≡ Some 0 → Outcome m s f r u g → m false s r u
unbroken p q (Quiet m k) = m
unbroken p q (Broken a m k) = let h = rw (p, q) at k.failures in absurd (omega (arith, h))

-- ---- through a reference
heads : (a b : GName) (xs ys : List GName) → a ∷ xs ≡ b ∷ ys → a ≡ b
heads a b xs ys e = cc

tails : (a b : GName) (xs ys : List GName) → a ∷ xs ≡ b ∷ ys → xs ≡ ys
tails a b xs ys e = cc

-- what a reference reports of what is after it
abbrev pub by_name : GName → Health → Health
by_name n f = record f { lenders = n ∷ f.lenders }

-- the reference is the same afterwards
pub name_stays : {A V : Type 0} {m : Meaning A V} {s : Standing A} {r : Result V DekuError} {u : Standing A} (f g : Health) (n k : GName)
    → Outcome m s (by_name n f) r u (by_name k g) → k ≡ n
name_stays f g n k o = heads k n g.lenders f.lenders (lenders_stay o)

-- what holds through a reference holds of what is after it
pub behind : {A V : Type 0} {m : Meaning A V} {s : Standing A} {r : Result V DekuError} {u : Standing A} (f g : Health) (n k : GName)
    → Outcome m s (by_name n f) r u (by_name k g) → Outcome m s f r u g
behind f g n k (Quiet p q) = Quiet p (record { failures = q.failures; lenders = tails k n g.lenders f.lenders q.lenders; whole = q.whole })
behind f g n k (Broken a p q) = Broken a p (record { failures = q.failures; lenders = tails k n g.lenders f.lenders q.lenders; whole = q.whole })

-- ---- what is refused before anything moves
-- a kept fault, or a count without room
pub turned_away : {A V : Type 0} (moves : A → ℕ → Result V DekuError → Standing A → Type 0) (n : ℕ) (s : Standing A) (e : DekuError) (f : Health)
    → Admits n s (Err e) → Outcome (UnlessStopped Unknown (CountsBits n moves)) s f (Err e) s f
turned_away moves n (Going a c) e f (inl p) = let h = p.1.2 in Quiet (inl (p.0, (p.1.0, p.1.1, cc, refl))) (no_fewer_same f)
turned_away moves n (Going a c) e f (inr p) = let h = p.1 in absurd (cc)
turned_away moves n (Stopped a fault c) e f p = Quiet (cc, refl) (no_fewer_same f)

-- memory that is not found
pub no_memory : {A V : Type 0} (moves : A → ℕ → Result V DekuError → Standing A → Type 0) (n : ℕ) (s : Standing A) (f : Health)
    → Admits n s (Ok tt) → Outcome (UnlessStopped Unknown (CountsBits n (Reserving moves))) s f (Err (Io OutOfMemory)) s f
no_memory moves n (Going a c) f (inl p) = let h = p.1.2 in absurd (cc)
no_memory moves n (Going a c) f (inr p) = Quiet (inr (p.0, inl (refl, refl))) (no_fewer_same f)
no_memory moves n (Stopped a fault c) f p = absurd (cc)

-- memory that is found
counted_found : {A V : Type 0} (moves : A → ℕ → Result V DekuError → Standing A → Type 0) (n : ℕ) (a : A) (c : ℕ) (r : Result V DekuError) (u : Standing A)
    → CountsBits n moves a c r u → CountsBits n (Reserving moves) a c r u
counted_found moves n a c r u (inl p) = inl p
counted_found moves n a c r u (inr p) = inr (p.0, inr p.1)

pub memory_found : {A V : Type 0} (moves : A → ℕ → Result V DekuError → Standing A → Type 0) (n : ℕ) (b : Bool) (s : Standing A) (r : Result V DekuError) (u : Standing A)
    → UnlessStopped Unknown (CountsBits n moves) b s r u → UnlessStopped Unknown (CountsBits n (Reserving moves)) b s r u
memory_found moves n false (Going a c) r u p = counted_found moves n a c r u p
memory_found moves n true (Going a c) r u p = p
memory_found moves n false (Stopped a e c) r u p = p
memory_found moves n true (Stopped a e c) r u p = p

-- the same, with h on the values
pub mapped_memory_found : {A V W : Type 0} (h : V → W) (moves : A → ℕ → Result V DekuError → Standing A → Type 0) (n : ℕ) (b : Bool) (s : Standing A) (r : Result W DekuError) (u : Standing A)
    → Mapped h (UnlessStopped Unknown (CountsBits n moves)) b s r u → Mapped h (UnlessStopped Unknown (CountsBits n (Reserving moves))) b s r u
mapped_memory_found h moves n b s r u (Value v p e) = Value v (memory_found moves n b s (Ok v) u p) e
mapped_memory_found h moves n b s r u (Refusal x p e) = Refusal x (memory_found moves n b s (Err x) u p) e
