use Rattle.std.proofs.Common.{◌≡◌, ◌+◌, ◌≤◌, length, arith}
use Rattle.deku_plan.proofs.Recorded.{room, at_put}
use Rattle.deku_plan.proofs.plan.slice.cut_records.Goals as goal

pub overflow_add-next : goal.overflow_add-next
overflow_add-next c = omega (arith, c.loop.invariant.0, c.requires.places, room c.loop.counter c.args.count (length c.args.fields.now) (omega arith))

pub loop-preserved : goal.loop-preserved
loop-preserved c =
    let fs = c.args.fields.now in
    let inside : c.loop.place + length fs ≤ length c.args.out.now = omega (arith, c.loop.invariant.0, c.requires.places, room c.loop.counter c.args.count (length fs) (omega arith)) in
    let long : length c.cut_either-bit.new.out ≡ length fs = omega (arith, inside) in (
      omega (arith, c.loop.invariant.0),
      omega (arith, c.loop.invariant.1, c.cut_either-bit.ensures.after),
      at_put fs c.loop.counter c.args.bytes.now c.loop.bit c.loop.place (c.loop.place + length fs) _ c.loop.out c.cut_either-bit.new.out c.loop.invariant.1 (omega arith) (omega (arith, long)) c.loop.invariant.2 c.cut_either-bit.ensures.values,
    )
