use Rattle.std.proofs.Common.{refl}
use Rattle.deku.proofs.Joining.{passed_on, first_refused, then_on, answered}
use Rattle.deku.proofs.Early.{promptly_on}
use Rattle.deku_container_tests.proofs.records.NineDekuReaderUnit.from_reader_with_ctx.Goals as goal

pub returns-in_err-halves-clause-reads : goal.returns-in_err-halves-clause-reads
returns-in_err-halves-clause-reads g c = passed_on _ c.from_residual.ensures.1 (first_refused c.in_err-halves.ensures.reads)

pub returns-in_err-flag-clause-reads : goal.returns-in_err-flag-clause-reads
returns-in_err-flag-clause-reads g c = passed_on _ c.from_residual-in_err-flag.ensures.1 (then_on c.in_ok-halves.ensures.reads (first_refused c.in_err-flag.ensures.reads))

pub returns-clause-reads : goal.returns-clause-reads
returns-clause-reads g c = then_on c.in_ok-halves.ensures.reads (then_on c.in_ok-flag.ensures.reads answered)

pub returns-clause-early : goal.returns-clause-early
returns-clause-early g c = λ _. promptly_on (c.in_ok-halves.ensures.early (tt, tt)) c.in_ok-flag.ensures.early
