use Rattle.std.proofs.Common.{◌≡◌, ◌+◌, ◌-◌, ◌≤◌, length, take, drop, refl, ap, arith}
use Rattle.deku_plan.proofs.Recorded.{room}
use Rattle.deku_plan.proofs.Laying.{record_fits}
use Rattle.deku_plan.proofs.lay.are_fitting.Goals as goal

pub loop-preserved : goal.loop-preserved
loop-preserved c =
    let ss = c.args.steps.now in
    let ns = c.args.values.now in
    let inside : c.loop.place + length ss ≤ length ns = omega (arith, c.loop.invariant.0, c.requires.values, room c.loop.counter c.args.count (length ss) (omega arith)) in
    let same : (c.loop.place + length ss) - c.loop.place ≡ length ss = omega arith in (
      omega (arith, c.loop.invariant.0),
      record_fits ss c.loop.counter c.loop.place (c.loop.place + length ss) ns _ (omega arith) inside (ap (λ n. take n (drop c.loop.place ns)) same) c.loop.invariant.1 (c.if-not-is_fitting.ensures refl),
    )
