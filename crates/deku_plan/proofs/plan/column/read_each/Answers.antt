use Rattle.std.proofs.Common.{◌≡◌, ◌*◌, ◌++◌, length, [], refl, subst, arith, length-append}
use Rattle.std.proofs.lemmas.Result.{err_from_is_err_and}
use Rattle.deku_plan.proofs.Running.{follows_first, joins_more, follows_not, follows_done}
use Rattle.deku_plan.proofs.Columned.{IsBelow, below_first, below_next, below_all}
use Rattle.deku_plan.proofs.plan.column.read_each.Goals as goal

pub loop-place-init : goal.loop-place-init
loop-place-init g c = ([], omega arith, follows_first c.args.fields.now (length c.args.out.now) c.args.out.now _ _, below_first (length c.args.fields.now) c.args.index [] c.args.out.now)

pub loop-place-preserved : goal.loop-place-preserved
loop-place-preserved g c =
    let fs = c.args.fields.now in
    let inv = c.loop-place.invariant in
    let ms = c.read_steps.new.out in
    let long : length ms ≡ length fs = omega arith in (
      inv.0 ++ ms,
      omega (arith, inv.1, long, length-append inv.0 ms),
      joins_more fs (length c.args.out.now) c.loop-place.place inv.0 ms _ _ _ _ _ _ (omega arith) inv.2 c.in_ok-read_steps.ensures.meaning,
      below_next (length fs) c.args.index c.loop-place.place inv.0 ms c.loop-place.out _ c.requires.field (omega arith) inv.1 long refl inv.3,
    )

pub returns-in_err-read_steps : goal.returns-in_err-read_steps
returns-in_err-read_steps g c =
    let p = err_from_is_err_and c.from_residual.result c.from_residual.ensures.1 in
    let inv = c.loop-place.invariant in
    rw (p.1, p.2) (follows_not c.args.fields.now (length c.args.out.now) c.loop-place.place inv.0 _ _ _ _ _ _ _ (omega arith) inv.2 c.in_err-read_steps.ensures.meaning)

pub returns : goal.returns
returns g c =
    let n = length c.args.fields.now in
    let inv = c.loop-place.invariant in
    let all : c.loop-place.place ≡ length c.loop-place.out = omega arith in (
      inv.0,
      follows_done c.args.fields.now (length c.args.out.now) c.loop-place.place inv.0 _ _ _ _ (omega arith) inv.2,
      below_all n c.args.index inv.0 c.loop-place.out c.requires.field (subst (λ m. length inv.0 ≡ m * n) all inv.1) (subst (λ m. IsBelow n c.args.index m inv.0 c.loop-place.out) all inv.3),
    )
