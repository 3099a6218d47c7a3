use Rattle.std.proofs.Common.{◌≡◌, ◌+◌, ◌*◌, ◌≤◌, length, ap, arith}
use Rattle.std.proofs.lemmas.Result.{err_from_is_err_and}
use Rattle.deku_plan.proofs.Recorded.{room}
use Rattle.deku_plan.proofs.Running.{follows_first, follows_more, follows_not, follows_last}
use Rattle.deku_plan.proofs.plan.slice.read_records.Goals as goal

pub loop-init : goal.loop-init
loop-init g c = (omega arith, follows_first c.args.fields.now c.args.count c.args.out.now _ _)

pub overflow_add-next : goal.overflow_add-next
overflow_add-next g c = omega (arith, c.loop.invariant.0, c.requires.places, room c.loop.counter c.args.count (length c.args.fields.now) (omega arith))

pub loop-preserved : goal.loop-preserved
loop-preserved g c =
    let fs = c.args.fields.now in
    let inside : c.loop.place + length fs ≤ length c.args.out.now = omega (arith, c.loop.invariant.0, c.requires.places, room c.loop.counter c.args.count (length fs) (omega arith)) in
    let long : length c.read_steps.new.out ≡ length fs = omega (arith, inside) in (
      omega (arith, c.loop.invariant.0),
      follows_more fs c.args.count c.loop.counter c.loop.place (c.loop.place + length fs) _ c.loop.out c.read_steps.new.out _ _ _ _ _ _ (omega arith) (omega arith) (omega (arith, long)) c.loop.invariant.1 c.in_ok-read_steps.ensures.meaning,
    )

pub returns-in_err-read_steps : goal.returns-in_err-read_steps
returns-in_err-read_steps g c =
    let p = err_from_is_err_and c.from_residual.result c.from_residual.ensures.1 in
    rw (p.1, p.2) (follows_not c.args.fields.now c.args.count c.loop.counter _ _ _ _ _ _ _ _ (omega arith) c.loop.invariant.1 c.in_err-read_steps.ensures.meaning)

pub returns : goal.returns
returns g c =
    let k = length c.args.fields.now in
    let all : c.loop.counter ≡ c.args.count = omega arith in
    let same : c.loop.counter * k ≡ c.args.count * k = ap (λ n. n * k) all in
    follows_last c.args.fields.now c.args.count c.loop.counter c.loop.place c.loop.out _ _ _ _ (omega arith) (omega (arith, same, c.loop.invariant.0, c.requires.places)) c.loop.invariant.1
