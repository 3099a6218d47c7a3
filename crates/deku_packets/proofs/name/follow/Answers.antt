use Rattle.std.proofs.Common.{◌-◌, refl, arith}
use Rattle.std.proofs.lemmas.Result.{err_from_is_err_and}
use Rattle.deku_packets.proofs.Following.{too_long, wrong_here, ends_here, label_here, pointer_here}
use Rattle.deku_packets.proofs.name.follow.Goals as goal
use Rattle.deku_packets.proofs.name.follow.Goals.{in-Label, in-Pointer}

pub returns-in_err-next : goal.returns-in_err-next
returns-in_err-next c =
    let k = err_from_is_err_and c.from_residual.result c.from_residual.ensures.1 in
    let wrong = wrong_here c.args.message.now c.loop.start c.loop.at (256 - c.loop.counter) c.in_err-next.field-0.0 (omega (arith, c.loop-test.true)) c.in_err-next.ensures.wrong in
    rw (k.1, k.2) (c.loop.invariant _ wrong)

pub returns-in-End : goal.returns-in-End
returns-in-End c = c.loop.invariant _ (ends_here c.args.message.now c.loop.start c.loop.at (256 - c.loop.counter) (omega (arith, c.loop-test.true)) (rw c.in-End.is at c.in_ok-next.ensures.step))

pub loop-preserved : goal.loop-preserved
loop-preserved c = elim c.match-branch-2.branch [
  | in-Label w ↦ let step = rw w.in-Label.is at c.in_ok-next.ensures.step in
      rw (w.at-is, w.start-is) (λ r follows. c.loop.invariant r (label_here c.args.message.now c.loop.start c.loop.at step.0 _ (256 - c.loop.counter) _ r (omega (arith, c.loop-test.true)) step.1 step.2 follows))
  | in-Pointer w ↦ let step = rw w.in-Pointer.is at c.in_ok-next.ensures.step in
      rw (w.at-is, w.start-is) (λ r follows. c.loop.invariant r (pointer_here c.args.message.now c.loop.start c.loop.at _ (256 - c.loop.counter) _ r (omega (arith, c.loop-test.true)) step.0 step.1 follows))
]

pub returns : goal.returns
returns c = c.loop.invariant _ (too_long c.args.message.now c.loop.start c.loop.at (256 - c.loop.counter) _ (omega (arith, c.loop-test.false)) (refl, refl))
