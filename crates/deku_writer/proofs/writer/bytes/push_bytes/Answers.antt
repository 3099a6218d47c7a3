use Rattle.std.proofs.Common.{arith}
use Rattle.std.proofs.lemmas.Result.{err_from_is_err_and}
use Rattle.deku_writer.proofs.Pushes.{Pushed-short}
use Rattle.deku_writer.proofs.WholeBytes.{runs_more, runs_stopped, runs_all}
use Rattle.deku_writer.proofs.writer.bytes.push_bytes.Goals as goal

pub returns-in_err-push_run-clause-fault : goal.returns-in_err-push_run-clause-fault
returns-in_err-push_run-clause-fault g c =
    let p = err_from_is_err_and c.from_residual.result c.from_residual.ensures.1 in
    rw (p.1, p.2)
    (runs_stopped _ _ _ c.args.held.now c.loop-i.held c.args.bytes.now c.loop-i.i (omega arith) c.requires c.loop-i.invariant _ (rw c.min.ensures at c.in_err-push_run.ensures.fault))

pub loop-i-preserved : goal.loop-i-preserved
loop-i-preserved g c =
    runs_more _ _ _ c.args.held.now c.loop-i.held c.args.bytes.now c.loop-i.i (omega arith) c.requires c.loop-i.invariant _ (rw c.min.ensures at c.in_ok-push_run.ensures.pushed)

pub returns-clause-pushed : goal.returns-clause-pushed
returns-clause-pushed g c =
    runs_all _ _ c.args.held.now c.loop-i.held c.args.bytes.now c.loop-i.i (omega arith) c.loop-i.invariant

pub push_run-requires-clause-short : goal.push_run-requires-clause-short
push_run-requires-clause-short g c = Pushed-short c.loop-i.invariant
