use Rattle.deku.proofs.Joining.{passed_on, first_refused, then_on, answered}
use Rattle.deku.proofs.Early.{promptly_on}
use Rattle.deku_container_tests.proofs.examples.LsbFieldDekuReaderUnit.from_reader_with_ctx.Goals as goal

pub returns-in_err-thirteen-clause-reads : goal.returns-in_err-thirteen-clause-reads
returns-in_err-thirteen-clause-reads g c = passed_on _ c.from_residual.ensures.1 (first_refused c.in_err-thirteen.ensures.reads)

pub returns-in_err-three-clause-reads : goal.returns-in_err-three-clause-reads
returns-in_err-three-clause-reads g c = passed_on _ c.from_residual-in_err-three.ensures.1 (then_on c.in_ok-thirteen.ensures.reads (first_refused c.in_err-three.ensures.reads))

pub returns-clause-reads : goal.returns-clause-reads
returns-clause-reads g c = then_on c.in_ok-thirteen.ensures.reads (then_on c.in_ok-three.ensures.reads answered)

pub returns-clause-early : goal.returns-clause-early
returns-clause-early g c = λ _. promptly_on c.in_ok-thirteen.ensures.early c.in_ok-three.ensures.early
