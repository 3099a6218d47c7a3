use Rattle.std.proofs.Common.{refl, arith, get_or}
use Rattle.deku_plan.proofs.Steps.{no_field, no_step, steps_long, step_at, step_small}
use Rattle.deku_plan.proofs.Aligning.{depends_first, depends_more, depends_not, depends_last}
use Rattle.deku_plan.proofs.plan.are_aligned.Goals as goal

pub loop-place-init : goal.loop-place-init
loop-place-init c = depends_first c.args.fields.now

pub bounds-steps-place : goal.bounds-steps-place
bounds-steps-place c = omega (arith, steps_long c.args.fields.now c.args.steps.now c.requires)

pub after-requires-clause-few : goal.after-requires-clause-few
after-requires-clause-few c = step_small c.args.fields.now c.args.steps.now c.loop-place.place no_field no_step c.requires (omega arith)

pub loop-place-preserved : goal.loop-place-preserved
loop-place-preserved c =
    let step = step_at c.args.fields.now c.args.steps.now c.loop-place.place no_field no_step c.requires (omega arith) in
    depends_more c.args.fields.now c.loop-place.place no_field c.loop-place.at c.in-Some.next.0 (get_or c.args.steps.now c.loop-place.place no_step).width c.loop-place.order c.in-Some.next.1 (omega arith) step.wide
    c.in-Some.ensures.inside c.in-Some.ensures.some c.loop-place.invariant

pub returns-in_default : goal.returns-in_default
returns-in_default c =
    let step = step_at c.args.fields.now c.args.steps.now c.loop-place.place no_field no_step c.requires (omega arith) in (
      λ no. absurd (cc no),
      λ yes. absurd (depends_not c.args.fields.now c.loop-place.place no_field c.loop-place.at (get_or c.args.steps.now c.loop-place.place no_step).width c.loop-place.order (omega arith) step.wide
          (c.in_default.ensures.none refl) c.loop-place.invariant yes),
    )

pub returns : goal.returns
returns c = (λ _. depends_last c.args.fields.now c.loop-place.place c.loop-place.at c.loop-place.order (omega arith) c.loop-place.invariant, λ _. refl)
