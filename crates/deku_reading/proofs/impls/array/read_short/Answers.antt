use Rattle.std.proofs.Common.{Bool, Result}
use Rattle.deku_bits.specs.declared.error.DekuError.{DekuError}
use Rattle.deku_bits.specs.Outcomes.{Meaning, Mapped, Value, Refusal}
use Rattle.deku_bits.specs.Standings.{Standing}
use Rattle.deku_bits.proofs.Handing.{passed_on}
use Rattle.deku_reading.specs.declared.impls.array.Row.{Row}
use Rattle.deku_reading.proofs.Cutting.{Turned, put, turned}
use Rattle.deku_reading.proofs.impls.array.read_short.Goals as goal

-- The array of a row.
row_turned : {A V : Type 0} {m : Meaning A V} → Turned (λ (l : Row V). l.0) (Mapped (λ v. record { 0 = v }) m) m
row_turned {A} {V} {m} = record { turn = turn }
  where
    turn : (b : Bool) (s : Standing A) (r : Result (Row V) DekuError) (u : Standing A) → Mapped (λ v. record { 0 = v }) m b s r u → m b s (put (λ (l : Row V). l.0) r) u
    turn b s r u (Value v p e) = rw e p
    turn b s r u (Refusal x p e) = rw e p

pub returns-in_err-items-clause-reads : goal.returns-in_err-items-clause-reads
returns-in_err-items-clause-reads g c = passed_on _ c.from_residual.ensures.1 (turned row_turned (rw c.in_err-items.was at c.in-Some.ensures.reads))

pub returns-in-Some-clause-reads : goal.returns-in-Some-clause-reads
returns-in-Some-clause-reads g c = turned row_turned (rw c.in_ok-items.was at c.in-Some.ensures.reads)

pub returns-clause-reads : goal.returns-clause-reads
returns-clause-reads g c = rw (← c.in_default.ensures.stays) c.read_slots.ensures.reads
