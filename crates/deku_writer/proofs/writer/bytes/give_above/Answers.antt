use Rattle.std.proofs.Common.{arith}
use Rattle.std.proofs.lemmas.Result.{err_from_is_err_and}
use Rattle.deku_device.proofs.Transfers.{Gave-nil}
use Rattle.deku_writer.proofs.WholeBytes.{above_none, above_more, above_stopped, above_all}
use Rattle.deku_writer.proofs.writer.bytes.give_above.Goals as goal

pub loop-i-init : goal.loop-i-init
loop-i-init g c = above_none _ c.args.bytes.now (Gave-nil _)

pub returns-in_err-give_turned-clause-fault : goal.returns-in_err-give_turned-clause-fault
returns-in_err-give_turned-clause-fault g c =
    let p = err_from_is_err_and c.from_residual.result c.from_residual.ensures.1 in
    rw (p.1, p.2) (above_stopped _ _ _ c.args.bytes.now c.loop-i.i (omega arith) c.loop-i.invariant _ (rw c.min.ensures at c.in_err-give_turned.ensures.fault))

pub loop-i-preserved : goal.loop-i-preserved
loop-i-preserved g c = above_more _ _ _ c.args.bytes.now c.loop-i.i (omega arith) c.loop-i.invariant (rw c.min.ensures at c.in_ok-give_turned.ensures.gave)

pub returns-clause-gave : goal.returns-clause-gave
returns-clause-gave g c = above_all _ _ c.args.bytes.now c.loop-i.i (omega arith) c.loop-i.invariant
