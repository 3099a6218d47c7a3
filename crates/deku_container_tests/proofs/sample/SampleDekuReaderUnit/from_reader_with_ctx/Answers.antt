use Rattle.std.proofs.Common.{refl}
use Rattle.deku.proofs.Early.{promptly_on}
use Rattle.deku.proofs.Joining.{passed_on, first_refused, then_on, answered}
use Rattle.deku_container_tests.proofs.sample.SampleDekuReaderUnit.from_reader_with_ctx.Goals as goal

pub returns-in_err-sensor-clause-reads : goal.returns-in_err-sensor-clause-reads
returns-in_err-sensor-clause-reads g c = passed_on _ c.from_residual.ensures.1 (first_refused c.in_err-sensor.ensures.reads)

pub returns-in_err-value-clause-reads : goal.returns-in_err-value-clause-reads
returns-in_err-value-clause-reads g c = passed_on _ c.from_residual-in_err-value.ensures.1 (then_on c.in_ok-sensor.ensures.reads (first_refused c.in_err-value.ensures.reads))

pub returns-clause-reads : goal.returns-clause-reads
returns-clause-reads g c = then_on c.in_ok-sensor.ensures.reads (then_on c.in_ok-value.ensures.reads answered)

pub returns-clause-early : goal.returns-clause-early
returns-clause-early g c = λ _. promptly_on (c.in_ok-sensor.ensures.early (tt, tt)) c.in_ok-value.ensures.early
