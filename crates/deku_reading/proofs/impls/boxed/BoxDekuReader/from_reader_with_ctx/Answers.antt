use Rattle.deku_bits.proofs.Handing.{passed_on}
use Rattle.deku_meanings.proofs.Joining.{first_refused, then_on}
use Rattle.deku_reading.proofs.Holding.{no_memory, shown_behind}
use Rattle.deku_reading.proofs.impls.boxed.BoxDekuReader.from_reader_with_ctx.Goals as goal

pub returns-in_err-value-clause-reads : goal.returns-in_err-value-clause-reads
returns-in_err-value-clause-reads g c = passed_on _ c.from_residual.ensures.1 (first_refused c.in_err-value.ensures.reads)

pub returns-in-Ok-clause-reads : goal.returns-in-Ok-clause-reads
returns-in-Ok-clause-reads g c = then_on c.in_ok-value.ensures.reads (shown_behind c.in-Ok.ensures.ok)

pub returns-clause-reads : goal.returns-clause-reads
returns-clause-reads g c = then_on c.in_ok-value.ensures.reads no_memory

pub returns-in-Ok-clause-early : goal.returns-in-Ok-clause-early
returns-in-Ok-clause-early g c = c.in_ok-value.ensures.early
