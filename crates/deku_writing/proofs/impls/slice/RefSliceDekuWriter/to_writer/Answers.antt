use Rattle.std.proofs.Common.{arith, ◌+◌}
use Rattle.std.proofs.lemmas.Result.{err_from_is_err_and}
use Rattle.deku_writing.proofs.WritingEach.{begun, some_written, item_written, item_refused, items_written}
use Rattle.deku_writing.proofs.impls.slice.RefSliceDekuWriter.to_writer.Goals as goal

pub loop-written-init : goal.loop-written-init
loop-written-init g c = record { few = omega arith; goes = begun (λ x. g.T.DekuWriter.meaning x c.args.ctx) c.args.self.now.now _ _ }

pub returns-in_err-to_writer : goal.returns-in_err-to_writer
returns-in_err-to_writer g c =
    let m = λ (x : g.row.T.Denot). g.T.DekuWriter.meaning x c.args.ctx in
    let run = c.try_write_first-written in
    let goes = some_written m c.args.self.now.now c.loop-written.written run.result _ _ _ _ _ _ c.loop-written.invariant.goes run.ensures.writes in
    let p = err_from_is_err_and c.from_residual.result c.from_residual.ensures.1 in
    rw (p.1, p.2) (item_refused m c.args.self.now.now (c.loop-written.written + run.result) c.index-self-written.result _ _ _ _ _ _ _ (omega (arith, c.if-written-self.true)) c.index-self-written.is goes (rw (← c.index-self-written.is) at c.in_err-to_writer.ensures))

pub loop-written-preserved-then-written-self : goal.loop-written-preserved-then-written-self
loop-written-preserved-then-written-self g c =
    let m = λ (x : g.row.T.Denot). g.T.DekuWriter.meaning x c.args.ctx in
    let run = c.try_write_first-written in
    let goes = some_written m c.args.self.now.now c.loop-written.written run.result _ _ _ _ _ _ c.loop-written.invariant.goes run.ensures.writes in
    record {
      few = omega (arith, c.if-written-self.true);
      goes = item_written m c.args.self.now.now (c.loop-written.written + run.result) c.index-self-written.result _ _ _ _ _ _ (omega (arith, c.if-written-self.true)) c.index-self-written.is goes (rw (← c.index-self-written.is) at c.in_ok-to_writer.ensures);
    }

pub loop-written-preserved : goal.loop-written-preserved
loop-written-preserved g c =
    let run = c.try_write_first-written in
    let few = run.ensures.few in
    record {
      few = omega (arith, few, c.loop-written.invariant.few);
      goes = some_written (λ x. g.T.DekuWriter.meaning x c.args.ctx) c.args.self.now.now c.loop-written.written run.result _ _ _ _ _ _ c.loop-written.invariant.goes run.ensures.writes;
    }

pub returns : goal.returns
returns g c = items_written (λ x. g.T.DekuWriter.meaning x c.args.ctx) c.args.self.now.now c.loop-written.written _ _ _ _ (omega (arith, c.loop-written-test.false)) c.loop-written.invariant.goes
