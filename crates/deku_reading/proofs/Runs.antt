-- Items that are read one after the other into memory that grows: what is known on the way.
use Rattle.std.proofs.Common.{Ok, Err, false, List, [], ◌∷◌, ◌++◌, refl, subst}
use Rattle.deku_bits.specs.declared.error.DekuError.{DekuError}
use Rattle.deku_bits.specs.Devices.{Health, DeviceKept}
use Rattle.deku_bits.specs.Standings.{Standing}
use Rattle.deku_bits.specs.Outcomes.{Meaning, Outcome, Quiet, Broken}
use Rattle.deku_bits.proofs.Handing.{broken_at, meant, no_fewer_on, more_on, no_fewer_same}
use Rattle.deku_num.specs.NumberCalls.{Passed}
use Rattle.deku_meanings.specs.Composing.{Answered}
use Rattle.deku_reading.specs.Lists as lists
use Rattle.deku_reading.specs.Lists.{AnswersEach, Runs, Until, Stored}
use Rattle.deku_meanings.proofs.Joining.{then_on}

-- ---- one item
pub stored : {A V : Type 0} {m : Meaning A V} {s : Standing A} {f : Health} {v : V} {t : Standing A} {g : Health}
    → Outcome m s f (Ok v) t g → Outcome (Stored m) s f (Ok v) t g
stored {g} o = then_on o (Quiet (Passed Answered) (no_fewer_same g))

-- ---- items
in_turn_on : {A V : Type 0} (m : Meaning A V) (vs : List V) (v : V) (s t u : Standing A) → AnswersEach m vs s t → m false t (Ok v) u → AnswersEach m (vs ++ v ∷ []) s u
in_turn_on m [] v s t u p q = (u, subst (λ x. m false x (Ok v) u) p q, refl)
in_turn_on m (w ∷ vs) v s t u p q = (p.0, p.1, in_turn_on m vs v p.0 t u p.2 q)

-- these were read
pub record SoFar {A V : Type 0} (m : Meaning A V) (vs : List V) (s0 : Standing A) (f0 : Health) (s : Standing A) (f : Health) : Type 0 where
  pub turn : AnswersEach m vs s0 s
  pub calm : DeviceKept f0 f

pub none_so_far : {A V : Type 0} (m : Meaning A V) (s : Standing A) (f : Health) → SoFar m [] s f s f
none_so_far m s f = record { turn = refl; calm = no_fewer_same f }

pub one_more : {A V : Type 0} {m : Meaning A V} {vs : List V} {v : V} {s0 : Standing A} {f0 : Health} {s : Standing A} {f : Health} {t : Standing A} {g : Health}
    → SoFar m vs s0 f0 s f → Outcome m s f (Ok v) t g → SoFar m (vs ++ v ∷ []) s0 f0 t g
one_more {m} {vs} {v} {s0} {f0} {s} {f} {t} {g} k o = let d = meant o in record { turn = in_turn_on m vs v s0 s t k.turn d.0; calm = no_fewer_on f0 f g k.calm d.1 }

pub run_ended : {A V : Type 0} {goes ends : List V → Type 0} {m : Meaning A V} {vs : List V} {s0 : Standing A} {f0 : Health} {s : Standing A} {f : Health}
    → SoFar m vs s0 f0 s f → ends vs → Outcome (Runs goes ends m) s0 f0 (Ok vs) s f
run_ended {vs} k e = Quiet (Until vs k.turn e refl refl) k.calm

pub run_refused : {A V : Type 0} {goes ends : List V → Type 0} {m : Meaning A V} {vs : List V} {e : DekuError} {s0 : Standing A} {f0 : Health} {s : Standing A} {f : Health} {t : Standing A} {g : Health}
    → SoFar m vs s0 f0 s f → goes vs → Outcome m s f (Err e) t g → Outcome (Runs goes ends m) s0 f0 (Err e) t g
run_refused {vs} {e} {f0} {s} {f} {g} k l (Quiet p q) = Quiet (lists.NextRefused vs s e k.turn l p refl) (no_fewer_on f0 f g k.calm q)
run_refused {vs} {e} {f0} {s} {f} {g} k l (Broken a p q) = Broken (broken_at a) (lists.NextRefused vs s e k.turn l p refl) (more_on f0 f g k.calm q)
