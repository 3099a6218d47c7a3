use Rattle.std.proofs.Common.{refl}
use Rattle.deku.proofs.Joining.{passed_on, first_refused, then_on, answered}
use Rattle.deku.proofs.Early.{promptly_on}
use Rattle.deku_container_tests.proofs.examples.NodeDekuReaderUnit.from_reader_with_ctx.Goals as goal

pub returns-in_err-kind-clause-reads : goal.returns-in_err-kind-clause-reads
returns-in_err-kind-clause-reads g c = passed_on _ c.from_residual.ensures.1 (first_refused c.in_err-kind.ensures.reads)

pub returns-in_err-mode-clause-reads : goal.returns-in_err-mode-clause-reads
returns-in_err-mode-clause-reads g c = passed_on _ c.from_residual-in_err-mode.ensures.1 (then_on c.in_ok-kind.ensures.reads (first_refused c.in_err-mode.ensures.reads))

pub returns-in_err-owners-clause-reads : goal.returns-in_err-owners-clause-reads
returns-in_err-owners-clause-reads g c = passed_on _ c.from_residual-in_err-owners.ensures.1 (then_on c.in_ok-kind.ensures.reads (then_on c.in_ok-mode.ensures.reads (first_refused c.in_err-owners.ensures.reads)))

pub returns-in_err-numbers-clause-reads : goal.returns-in_err-numbers-clause-reads
returns-in_err-numbers-clause-reads g c = passed_on _ c.from_residual-in_err-numbers.ensures.1 (then_on c.in_ok-kind.ensures.reads (then_on c.in_ok-mode.ensures.reads (then_on c.in_ok-owners.ensures.reads (first_refused c.in_err-numbers.ensures.reads))))

pub returns-clause-reads : goal.returns-clause-reads
returns-clause-reads g c = then_on c.in_ok-kind.ensures.reads (then_on c.in_ok-mode.ensures.reads (then_on c.in_ok-owners.ensures.reads (then_on c.in_ok-numbers.ensures.reads answered)))

pub returns-clause-early : goal.returns-clause-early
returns-clause-early g c = λ _. promptly_on (promptly_on (promptly_on c.in_ok-kind.ensures.early c.in_ok-mode.ensures.early) (c.in_ok-owners.ensures.early (tt, tt))) (c.in_ok-numbers.ensures.early (tt, tt))
