use Rattle.deku_bits.proofs.Handing.{passed_on}
use Rattle.deku_meanings.proofs.Joining.{first_refused, then_on}
use Rattle.deku.proofs.Endings.{unended}
use Rattle.deku_reading.proofs.Early.{at_ok}
use Rattle.deku.proofs.impls.cstring.CStringDekuReaderUnit.from_reader_with_ctx.Goals as goal

pub returns-clause-reads : goal.returns-clause-reads
returns-clause-reads g c = then_on c.in_ok-bytes.ensures.reads (unended c.in_ok-bytes.bytes.items c.unended.result _ _ c.unended.ensures.ok c.unended.ensures.err)

pub returns-in_err-bytes-clause-reads : goal.returns-in_err-bytes-clause-reads
returns-in_err-bytes-clause-reads g c = passed_on _ c.from_residual.ensures.1 (first_refused c.in_err-bytes.ensures.reads)

pub returns-clause-early : goal.returns-clause-early
returns-clause-early g c = at_ok c.unended.result (λ _. c.in_ok-bytes.ensures.early)
