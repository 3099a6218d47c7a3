use Rattle.deku_bits.proofs.Handing.{passed_on}
use Rattle.deku_meanings.proofs.Joining.{unsigned_ok, unsigned_err}
use Rattle.deku_reading.proofs.Early.{number_promptly}
use Rattle.deku_reading.proofs.impls.primitive.U8DekuReader.from_reader_with_ctx.Goals as goal

pub returns-in_err-value-clause-reads : goal.returns-in_err-value-clause-reads
returns-in_err-value-clause-reads g c = passed_on _ c.from_residual.ensures.1 (unsigned_err (rw c.parts.ensures at c.in_err-value.ensures.reads))

pub returns-clause-reads : goal.returns-clause-reads
returns-clause-reads g c = unsigned_ok (rw c.parts.ensures at c.in_ok-value.ensures.reads)

pub returns-clause-fetched : goal.returns-clause-fetched
returns-clause-fetched g c = rw c.parts.ensures at c.in_ok-value.ensures.fetched

pub returns-clause-early : goal.returns-clause-early
returns-clause-early g c = number_promptly c.in_ok-value.ensures.reads c.in_ok-value.ensures.fetched c.in_ok-value.ensures.early

pub returns-in_err-value-clause-stopped : goal.returns-in_err-value-clause-stopped
returns-in_err-value-clause-stopped g c = c.in_err-value.ensures.stopped

pub returns-clause-stopped : goal.returns-clause-stopped
returns-clause-stopped g c = c.in_ok-value.ensures.stopped
