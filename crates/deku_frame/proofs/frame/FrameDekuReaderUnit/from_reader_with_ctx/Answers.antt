use Rattle.deku_bits.proofs.Handing.{passed_on}
use Rattle.deku.proofs.Joining.{first_refused, then_on}
use Rattle.deku_frame.proofs.frame.FrameDekuReaderUnit.from_reader_with_ctx.Goals as goal

pub returns-clause-reads : goal.returns-clause-reads
returns-clause-reads g c = then_on c.in_ok-id.ensures.reads c.read_body.ensures.reads

pub returns-in_err-id-clause-reads : goal.returns-in_err-id-clause-reads
returns-in_err-id-clause-reads g c = passed_on _ c.from_residual.ensures.1 (first_refused c.in_err-id.ensures.reads)
