use Rattle.std.proofs.Common.{◌≡◌, ◌+◌, ◌-◌, ◌≤◌, length, take, drop, ap, refl, arith}
use Rattle.std.proofs.lemmas.Result.{err_from_is_err_and}
use Rattle.deku_plan.proofs.Recorded.{room}
use Rattle.deku_plan.proofs.Putting.{goes_first, goes_more, goes_not, goes_last}
use Rattle.deku_plan.proofs.plan.slice.write_records.Goals as goal

pub loop-init : goal.loop-init
loop-init g c = (omega arith, goes_first c.args.fields.now c.args.count c.args.values.now _ _)

pub overflow_add-next : goal.overflow_add-next
overflow_add-next g c = omega (arith, c.loop.invariant.0, c.requires.values, room c.loop.counter c.args.count (length c.args.fields.now) (omega arith))

pub loop-preserved : goal.loop-preserved
loop-preserved g c =
    let fs = c.args.fields.now in
    let ns = c.args.values.now in
    let inside : c.loop.place + length fs ≤ length ns = omega (arith, c.loop.invariant.0, c.requires.values, room c.loop.counter c.args.count (length fs) (omega arith)) in
    let same : (c.loop.place + length fs) - c.loop.place ≡ length fs = omega arith in (
      omega (arith, c.loop.invariant.0),
      goes_more fs c.args.count c.loop.counter c.loop.place (c.loop.place + length fs) ns _ _ _ _ _ _ _ (omega arith) (omega (arith, inside)) refl (ap (λ n. take n (drop c.loop.place ns)) same) c.loop.invariant.1 c.in_ok-write_steps.ensures.meaning,
    )

pub returns-in_err-write_steps : goal.returns-in_err-write_steps
returns-in_err-write_steps g c =
    let fs = c.args.fields.now in
    let ns = c.args.values.now in
    let inside : c.loop.place + length fs ≤ length ns = omega (arith, c.loop.invariant.0, c.requires.values, room c.loop.counter c.args.count (length fs) (omega arith)) in
    let same : (c.loop.place + length fs) - c.loop.place ≡ length fs = omega arith in
    let p = err_from_is_err_and c.from_residual.result c.from_residual.ensures.1 in
    rw (p.1, p.2) (goes_not fs c.args.count c.loop.counter c.loop.place ns _ _ _ _ _ _ _ _ (omega arith) (omega (arith, inside)) (ap (λ n. take n (drop c.loop.place ns)) same) c.loop.invariant.1 c.in_err-write_steps.ensures.meaning)

pub returns : goal.returns
returns g c = goes_last c.args.fields.now c.args.count c.loop.counter c.loop.place c.args.values.now _ _ _ _ (omega arith) c.loop.invariant.1
