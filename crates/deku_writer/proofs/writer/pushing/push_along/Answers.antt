use Rattle.std.proofs.Common.{refl}
use Rattle.std.proofs.lemmas.Result.{err_from_is_err_and}
use Rattle.deku_writer.proofs.Pushes.{Pushed-short, along_more, along_stopped, along_all}
use Rattle.deku_writer.proofs.writer.pushing.push_along.Goals as goal

pub returns-in_err-push_bit-clause-fault : goal.returns-in_err-push_bit-clause-fault
returns-in_err-push_bit-clause-fault g c =
    let p = err_from_is_err_and c.from_residual.result c.from_residual.ensures.1 in
    rw (p.1, p.2)
    (along_stopped _ _ _ c.args.order c.args.way c.args.held.now c.loop-i.held c.args.bits.now c.loop-i.i _ c.loop-i-test.true (c.place.ensures.bit c.args.bits.now refl) c.loop-i.invariant
    _ c.in_err-push_bit.ensures.fault)

pub loop-i-preserved : goal.loop-i-preserved
loop-i-preserved g c =
    along_more _ _ _ c.args.order c.args.way c.args.held.now c.loop-i.held c.args.bits.now c.loop-i.i _ c.loop-i-test.true (c.place.ensures.bit c.args.bits.now refl) c.loop-i.invariant
    _ c.in_ok-push_bit.ensures.pushed

pub returns-clause-pushed : goal.returns-clause-pushed
returns-clause-pushed g c =
    along_all _ _ c.args.order c.args.way c.args.held.now c.loop-i.held c.args.bits.now c.loop-i.i c.loop-i-test.false c.loop-i.invariant

pub push_bit-requires : goal.push_bit-requires
push_bit-requires g c = Pushed-short c.loop-i.invariant
