-- Outcomes of one item after the other. What records written by hand cite is here or is passed on from here.
pub use Rattle.deku_bits.proofs.Handing.{passed_on, mapped_ok, mapped_err}
use Rattle.std.proofs.Common.{◌≡◌, ℕ, Result, Ok, Err, Option, ℤ, pos, refl, sym, subst}
use Rattle.deku_bits.specs.declared.error.DekuError.{DekuError}
use Rattle.deku_bits.specs.Streams.{Stream}
use Rattle.deku_bits.specs.Devices.{Health}
use Rattle.deku_bits.specs.Standings.{Standing, Output}
use Rattle.deku_bits.specs.Outcomes.{Meaning, Outcome, Quiet, Broken}
use Rattle.deku_bits.proofs.Handing.{no_ok, broken_at, meant, no_fewer_on, more_on, no_fewer_same}
use Rattle.deku_num.specs.declared.kind.NumberType.{NumberType}
use Rattle.deku_num.specs.declared.ctx.Layout.{Layout}
use Rattle.deku_num.specs.NumberCalls.{ReadsNumber, ReadsUnsigned, WritesNumber}
use Rattle.deku_meanings.specs.Composing.{Answer, Answered, Then, Second, First}

-- the first part is refused
pub first_refused : {A V W : Type 0} {m : Meaning A V} {k : V → Meaning A W} {s : Standing A} {f : Health} {e : DekuError} {u : Standing A} {g : Health}
    → Outcome m s f (Err e) u g → Outcome (Then m k) s f (Err e) u g
first_refused {e} (Quiet p q) = Quiet (First e p refl) q
first_refused {e} (Broken a p q) = Broken (broken_at a) (First e p refl) q

-- the first part returns a value, and then the second returns
pub then_on : {A V W : Type 0} {m : Meaning A V} {k : V → Meaning A W} {s : Standing A} {f : Health} {v : V} {t : Standing A} {g : Health} {r : Result W DekuError} {u : Standing A} {h : Health}
    → Outcome m s f (Ok v) t g → Outcome (k v) t g r u h → Outcome (Then m k) s f r u h
then_on {f} {v} {t} {g} {h} a (Quiet p q) = let d = meant a in Quiet (Second v t d.0 p) (no_fewer_on f g h d.1 q)
then_on {f} {v} {t} {g} {h} a (Broken z p q) = let d = meant a in Broken z (Second v t d.0 p) (more_on f g h d.1 q)

-- nothing is done
pub answered : {A V : Type 0} {v : V} {s : Standing A} {f : Health} → Outcome (Answer v) s f (Ok v) s f
answered {f} = Quiet Answered (no_fewer_same f)

-- ---- numbers without a sign
pub unsigned_ok : {t : NumberType} {l : Layout} {s : Standing (Option Stream)} {f : Health} {v : ℕ} {u : Standing (Option Stream)} {g : Health}
    → Outcome (ReadsNumber t l) s f (Ok (pos v)) u g → Outcome (ReadsUnsigned t l) s f (Ok v) u g
unsigned_ok (Quiet p q) = Quiet p q
unsigned_ok (Broken a p q) = absurd (no_ok a)

pub unsigned_err : {t : NumberType} {l : Layout} {s : Standing (Option Stream)} {f : Health} {e : DekuError} {u : Standing (Option Stream)} {g : Health}
    → Outcome (ReadsNumber t l) s f (Err e) u g → Outcome (ReadsUnsigned t l) s f (Err e) u g
unsigned_err (Quiet p q) = Quiet p q
unsigned_err (Broken a p q) = Broken (broken_at a) p q

-- ---- numbers with a sign, as they are cast
pub signed_written : {t : NumberType} {l : Layout} {v w : ℤ} {s : Standing Output} {f : Health} {r : Result (Unit {0}) DekuError} {u : Standing Output} {g : Health}
    → Outcome (WritesNumber t l v) s f r u g → v ≡ w → Outcome (WritesNumber t l w) s f r u g
signed_written {t} {l} {s} {f} {r} {u} {g} o e = subst (λ x. Outcome (WritesNumber t l x) s f r u g) e o

pub signed_read : {t : NumberType} {l : Layout} {v w : ℤ} {s : Standing (Option Stream)} {f : Health} {u : Standing (Option Stream)} {g : Health}
    → Outcome (ReadsNumber t l) s f (Ok w) u g → v ≡ w → Outcome (ReadsNumber t l) s f (Ok v) u g
signed_read {t} {l} {s} {f} {u} {g} o e = subst (λ x. Outcome (ReadsNumber t l) s f (Ok x) u g) (sym e) o
