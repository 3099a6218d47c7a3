use Rattle.std.proofs.Common.{sym}
use Rattle.deku.proofs.Joining.{passed_on, first_refused, then_on, answered}
use Rattle.deku_pieces.proofs.Passing.{not_passing, passing}
use Rattle.deku_pieces.proofs.assertion.AssertDekuReaderUnit.from_reader_with_ctx.Goals as goal

pub returns-in_err-part-clause-reads : goal.returns-in_err-part-clause-reads
returns-in_err-part-clause-reads g c = passed_on _ c.from_residual.ensures.1 (first_refused c.in_err-part.ensures.reads)

pub returns-then-not-passes-clause-reads : goal.returns-then-not-passes-clause-reads
returns-then-not-passes-clause-reads g c = then_on c.in_ok-part.ensures.reads (not_passing g.C.Check.passes c.in_ok-part.part _ c.text.result c.text.ensures (sym c.if-not-passes.ensures))

pub returns-clause-reads : goal.returns-clause-reads
returns-clause-reads g c = rw c.new.ensures (then_on c.in_ok-part.ensures.reads (passing g.C.Check.passes g.C.Check.text c.in_ok-part.part (sym c.if-not-passes.ensures) answered))
