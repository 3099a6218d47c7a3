use Rattle.deku.proofs.Joining.{passed_on, mapped_ok, mapped_err, first_refused, then_on}
use Rattle.deku_located.proofs.Placing.{joined_first, joined_on}
use Rattle.deku_located.proofs.following.ChosenBySteps.read_steps.Goals as goal

pub returns-in_err-head-clause-reads : goal.returns-in_err-head-clause-reads
returns-in_err-head-clause-reads g c = passed_on _ c.from_residual.ensures.1 (first_refused c.in_err-head.ensures.reads)

pub returns-in_err-head-clause-placed : goal.returns-in_err-head-clause-placed
returns-in_err-head-clause-placed g c = passed_on _ c.from_residual.ensures.1 (joined_first c.in_err-head.ensures.placed)

pub returns-in_err-kind-clause-reads : goal.returns-in_err-kind-clause-reads
returns-in_err-kind-clause-reads g c =
    passed_on _ c.from_residual-in_err-kind.ensures.1
    (then_on c.in_ok-head.ensures.reads (mapped_err (λ k. record { head = c.in_ok-head.head; kind = k; id = record {} }) (rw c.id.ensures at c.in_err-kind.ensures.reads)))

pub returns-in_err-kind-clause-placed : goal.returns-in_err-kind-clause-placed
returns-in_err-kind-clause-placed g c =
    passed_on _ c.from_residual-in_err-kind.ensures.1
    (joined_on _ c.in_ok-head.ensures.placed (mapped_err (λ k. record { head = c.in_ok-head.head; kind = k; id = record {} }) (rw c.id.ensures at c.in_err-kind.ensures.placed)))

pub returns-clause-reads : goal.returns-clause-reads
returns-clause-reads g c = rw c.new.ensures (then_on c.in_ok-head.ensures.reads (mapped_ok (λ k. record { head = c.in_ok-head.head; kind = k; id = record {} }) (rw c.id.ensures at c.in_ok-kind.ensures.reads)))

pub returns-clause-placed : goal.returns-clause-placed
returns-clause-placed g c = rw c.new.ensures (joined_on _ c.in_ok-head.ensures.placed (mapped_ok (λ k. record { head = c.in_ok-head.head; kind = k; id = record {} }) (rw c.id.ensures at c.in_ok-kind.ensures.placed)))
