use Rattle.std.proofs.Common.{sym, refl}
use Rattle.deku.proofs.Joining.{passed_on, first_refused, then_on, answered}
use Rattle.deku_pieces.proofs.Passing.{not_passing, passing}
use Rattle.deku_located.proofs.Placing.{unread, passed, failed}
use Rattle.deku_located.proofs.following.AssertSteps.read_steps.Goals as goal

pub returns-in_err-part-clause-reads : goal.returns-in_err-part-clause-reads
returns-in_err-part-clause-reads g c = passed_on _ c.from_residual.ensures.1 (first_refused c.in_err-part.ensures.reads)

pub returns-in_err-part-clause-placed : goal.returns-in_err-part-clause-placed
returns-in_err-part-clause-placed g c = passed_on _ c.from_residual.ensures.1 (unread c.in_err-part.ensures.placed)

pub returns-then-not-passes-clause-reads : goal.returns-then-not-passes-clause-reads
returns-then-not-passes-clause-reads g c = then_on c.in_ok-part.ensures.reads (not_passing g.C.Check.passes c.in_ok-part.part _ c.text.result c.text.ensures (sym c.if-not-passes.ensures))

pub returns-then-not-passes-clause-placed : goal.returns-then-not-passes-clause-placed
returns-then-not-passes-clause-placed g c = failed _ c.text.result c.text.ensures (sym c.if-not-passes.ensures) refl c.in_ok-part.ensures.placed

pub returns-clause-reads : goal.returns-clause-reads
returns-clause-reads g c = rw c.new.ensures (then_on c.in_ok-part.ensures.reads (passing g.C.Check.passes g.C.Check.text c.in_ok-part.part (sym c.if-not-passes.ensures) answered))

pub returns-clause-placed : goal.returns-clause-placed
returns-clause-placed g c = rw c.new.ensures (passed (sym c.if-not-passes.ensures) c.in_ok-part.ensures.placed)
