use Rattle.deku.proofs.Joining.{passed_on, first_refused, then_on, answered}
use Rattle.deku_frame.proofs.frame.read_halves.Goals as goal

pub returns-in_err-left-clause-reads : goal.returns-in_err-left-clause-reads
returns-in_err-left-clause-reads g c = passed_on _ c.from_residual.ensures.1 (first_refused c.in_err-left.ensures.reads)

pub returns-in_err-right-clause-reads : goal.returns-in_err-right-clause-reads
returns-in_err-right-clause-reads g c = passed_on _ c.from_residual-in_err-right.ensures.1 (then_on c.in_ok-left.ensures.reads (first_refused c.in_err-right.ensures.reads))

pub returns-clause-reads : goal.returns-clause-reads
returns-clause-reads g c = then_on c.in_ok-left.ensures.reads (then_on c.in_ok-right.ensures.reads answered)
