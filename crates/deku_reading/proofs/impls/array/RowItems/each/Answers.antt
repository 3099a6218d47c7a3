use Rattle.deku_bits.proofs.Handing.{passed_on, mapped_ok, mapped_err}
use Rattle.deku_reading.proofs.impls.array.RowItems.each.Goals as goal

pub returns-in_err-items-clause-reads : goal.returns-in_err-items-clause-reads
returns-in_err-items-clause-reads g c = passed_on _ c.from_residual.ensures.1 (mapped_err _ c.in_err-items.ensures.reads)

pub returns-clause-reads : goal.returns-clause-reads
returns-clause-reads g c = mapped_ok _ c.in_ok-items.ensures.reads
