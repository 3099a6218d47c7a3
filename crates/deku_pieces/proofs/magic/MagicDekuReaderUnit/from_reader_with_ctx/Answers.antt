use Rattle.deku_bits.proofs.Handing.{weaker}
use Rattle.deku.proofs.Joining.{passed_on, first_refused, then_on, answered}
use Rattle.deku_num.specs.NumberCalls.{Passed}
use Rattle.deku_pieces.proofs.Passing.{not_value}
use Rattle.deku_pieces.proofs.magic.MagicDekuReaderUnit.from_reader_with_ctx.Goals as goal

pub returns-in_err-part-clause-reads : goal.returns-in_err-part-clause-reads
returns-in_err-part-clause-reads g c = passed_on _ c.from_residual.ensures.1 (first_refused c.in_err-part.ensures.reads)

pub returns-then-not-is_value-clause-reads : goal.returns-then-not-is_value-clause-reads
returns-then-not-is_value-clause-reads g c = then_on c.in_ok-part.ensures.reads (not_value g.C.Constant.value c.in_ok-part.part _ c.text.result c.text.ensures c.if-not-is_value.ensures)

pub returns-clause-reads : goal.returns-clause-reads
returns-clause-reads g c = rw c.new.ensures (then_on c.in_ok-part.ensures.reads (weaker _ _ _ _ _ _ _ (λ b p. Passed (c.if-not-is_value.ensures, p)) answered))
