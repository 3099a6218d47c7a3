use Rattle.deku.proofs.Joining.{passed_on, mapped_ok, mapped_err, first_refused, then_on}
use Rattle.deku_located.proofs.Placing.{joined_first, joined_on}
use Rattle.deku_located.proofs.following.FilledBySteps.read_steps.Goals as goal

pub returns-in_err-head-clause-reads : goal.returns-in_err-head-clause-reads
returns-in_err-head-clause-reads g c = passed_on _ c.from_residual.ensures.1 (first_refused c.in_err-head.ensures.reads)

pub returns-in_err-head-clause-placed : goal.returns-in_err-head-clause-placed
returns-in_err-head-clause-placed g c = passed_on _ c.from_residual.ensures.1 (joined_first c.in_err-head.ensures.placed)

pub returns-in_err-items-clause-reads : goal.returns-in_err-items-clause-reads
returns-in_err-items-clause-reads g c =
    passed_on _ c.from_residual-in_err-items.ensures.1
    (then_on c.in_ok-head.ensures.reads (mapped_err (λ xs. record { head = c.in_ok-head.head; items = xs; size = record {} }) (rw c.size.ensures at c.in_err-items.ensures.reads)))

pub returns-in_err-items-clause-placed : goal.returns-in_err-items-clause-placed
returns-in_err-items-clause-placed g c =
    passed_on _ c.from_residual-in_err-items.ensures.1
    (joined_on _ c.in_ok-head.ensures.placed (mapped_err (λ xs. record { head = c.in_ok-head.head; items = xs; size = record {} }) (rw c.size.ensures at c.in_err-items.ensures.placed)))

pub returns-clause-reads : goal.returns-clause-reads
returns-clause-reads g c = rw c.new.ensures (then_on c.in_ok-head.ensures.reads (mapped_ok (λ xs. record { head = c.in_ok-head.head; items = xs; size = record {} }) (rw c.size.ensures at c.in_ok-items.ensures.reads)))

pub returns-clause-placed : goal.returns-clause-placed
returns-clause-placed g c = rw c.new.ensures (joined_on _ c.in_ok-head.ensures.placed (mapped_ok (λ xs. record { head = c.in_ok-head.head; items = xs; size = record {} }) (rw c.size.ensures at c.in_ok-items.ensures.placed)))
