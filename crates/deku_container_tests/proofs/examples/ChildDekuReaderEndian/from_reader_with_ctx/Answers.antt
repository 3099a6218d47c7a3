use Rattle.std.proofs.Common.{refl}
use Rattle.deku.proofs.Joining.{passed_on, first_refused, then_on, answered}
use Rattle.deku.proofs.Early.{promptly_on}
use Rattle.deku_container_tests.proofs.examples.ChildDekuReaderEndian.from_reader_with_ctx.Goals as goal

pub returns-in_err-byte-clause-reads : goal.returns-in_err-byte-clause-reads
returns-in_err-byte-clause-reads g c = passed_on _ c.from_residual.ensures.1 (first_refused c.in_err-byte.ensures.reads)

pub returns-in_err-flags-clause-reads : goal.returns-in_err-flags-clause-reads
returns-in_err-flags-clause-reads g c = passed_on _ c.from_residual-in_err-flags.ensures.1 (then_on c.in_ok-byte.ensures.reads (first_refused c.in_err-flags.ensures.reads))

pub returns-in_err-five-clause-reads : goal.returns-in_err-five-clause-reads
returns-in_err-five-clause-reads g c = passed_on _ c.from_residual-in_err-five.ensures.1 (then_on c.in_ok-byte.ensures.reads (then_on c.in_ok-flags.ensures.reads (first_refused c.in_err-five.ensures.reads)))

pub returns-clause-reads : goal.returns-clause-reads
returns-clause-reads g c = then_on c.in_ok-byte.ensures.reads (then_on c.in_ok-flags.ensures.reads (then_on c.in_ok-five.ensures.reads answered))

pub returns-clause-early : goal.returns-clause-early
returns-clause-early g c = λ _. promptly_on (promptly_on c.in_ok-byte.ensures.early (c.in_ok-flags.ensures.early (tt, (tt, tt)))) c.in_ok-five.ensures.early
