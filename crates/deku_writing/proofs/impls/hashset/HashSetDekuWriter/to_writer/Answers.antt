use Rattle.deku_bits.proofs.Handing.{passed_on}
use Rattle.deku_writing.proofs.WritingEach.{next_written, next_refused, none_left}
use Rattle.deku_writing.proofs.impls.hashset.HashSetDekuWriter.to_writer.Goals as goal

pub returns-in_err-to_writer : goal.returns-in_err-to_writer
returns-in_err-to_writer g c =
    passed_on _ c.from_residual.ensures.1
    (next_refused (λ x. g.T.DekuWriter.meaning x c.args.ctx) c.args.self.now.keys _ _ _ _ _ _ _ _ _ (rw c.in-Some.ensures.steps at c.loop-item.invariant) c.in_err-to_writer.ensures)

pub loop-item-preserved : goal.loop-item-preserved
loop-item-preserved g c = next_written (λ x. g.T.DekuWriter.meaning x c.args.ctx) c.args.self.now.keys _ _ _ _ _ _ _ _ (rw c.in-Some.ensures.steps at c.loop-item.invariant) c.in_ok-to_writer.ensures

pub returns : goal.returns
returns g c = none_left (λ x. g.T.DekuWriter.meaning x c.args.ctx) c.args.self.now.keys _ _ _ _ (rw c.in-None.ensures.steps.0 at c.loop-item.invariant)
