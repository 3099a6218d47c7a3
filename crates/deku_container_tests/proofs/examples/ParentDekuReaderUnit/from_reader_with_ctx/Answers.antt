use Rattle.std.proofs.Common.{refl}
use Rattle.deku.proofs.Joining.{passed_on, first_refused, then_on, answered}
use Rattle.deku.proofs.Early.{promptly_on}
use Rattle.deku_container_tests.proofs.examples.ParentDekuReaderUnit.from_reader_with_ctx.Goals as goal

pub returns-in_err-wide-clause-reads : goal.returns-in_err-wide-clause-reads
returns-in_err-wide-clause-reads g c = passed_on _ c.from_residual.ensures.1 (first_refused c.in_err-wide.ensures.reads)

pub returns-in_err-narrow-clause-reads : goal.returns-in_err-narrow-clause-reads
returns-in_err-narrow-clause-reads g c = passed_on _ c.from_residual-in_err-narrow.ensures.1 (then_on c.in_ok-wide.ensures.reads (first_refused c.in_err-narrow.ensures.reads))

pub returns-in_err-child-clause-reads : goal.returns-in_err-child-clause-reads
returns-in_err-child-clause-reads g c = passed_on _ c.from_residual-in_err-child.ensures.1 (then_on c.in_ok-wide.ensures.reads (then_on c.in_ok-narrow.ensures.reads (first_refused c.in_err-child.ensures.reads)))

pub returns-clause-reads : goal.returns-clause-reads
returns-clause-reads g c = then_on c.in_ok-wide.ensures.reads (then_on c.in_ok-narrow.ensures.reads (then_on c.in_ok-child.ensures.reads answered))

pub returns-clause-early : goal.returns-clause-early
returns-clause-early g c = λ _. promptly_on (promptly_on c.in_ok-wide.ensures.early c.in_ok-narrow.ensures.early) (c.in_ok-child.ensures.early tt)
