use Rattle.deku.proofs.Joining.{passed_on, first_refused, then_on}
use Rattle.deku_pieces.proofs.Turned.{shown}
use Rattle.deku_coded.proofs.CodedDekuReaderUnit.from_reader_with_ctx.Goals as goal

pub returns-in_err-parts-clause-reads : goal.returns-in_err-parts-clause-reads
returns-in_err-parts-clause-reads g c = passed_on _ c.from_residual.ensures.1 (first_refused c.in_err-parts.ensures.reads)

pub returns-clause-reads : goal.returns-clause-reads
returns-clause-reads g c = then_on c.in_ok-parts.ensures.reads (shown c.from_parts.ensures)
