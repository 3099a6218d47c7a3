use Rattle.deku_bits.proofs.Handing.{passed_on, mapped_ok, mapped_err}
use Rattle.deku_reading.proofs.impls.tuple.Tuple1DekuReader.from_reader_with_ctx.Goals as goal

pub returns-in_err-a-clause-reads : goal.returns-in_err-a-clause-reads
returns-in_err-a-clause-reads g c = passed_on _ c.from_residual.ensures.1 (mapped_err _ c.in_err-a.ensures.reads)

pub returns-clause-reads : goal.returns-clause-reads
returns-clause-reads g c = mapped_ok _ c.in_ok-a.ensures.reads

pub returns-clause-early : goal.returns-clause-early
returns-clause-early g c = c.in_ok-a.ensures.early
