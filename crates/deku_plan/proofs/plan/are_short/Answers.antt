use Rattle.std.proofs.Common.{All, subst, arith, rules}
use Rattle.std.proofs.lemmas.List.{take_all}
use Rattle.std.proofs.lemmas.List.Elements.{All-more}
use Rattle.deku_plan.specs.Plans.{IsHigh}
use Rattle.deku_plan.specs.Laying.{IsShort}
use Rattle.deku_plan.proofs.Steps.{no_field, no_step, steps_long, step_at}
use Rattle.deku_plan.proofs.plan.are_short.Goals as goal

pub bounds-steps-place : goal.bounds-steps-place
bounds-steps-place c = omega (arith, steps_long c.args.fields.now c.args.steps.now c.requires)

pub is_short-requires : goal.is_short-requires
is_short-requires c = step_at c.args.fields.now c.args.steps.now c.loop-place.place no_field no_step c.requires (omega arith)

pub loop-place-preserved : goal.loop-place-preserved
loop-place-preserved c =
    let long = steps_long c.args.fields.now c.args.steps.now c.requires in (
      All-more IsHigh c.args.fields.now c.loop-place.place no_field (omega arith) c.loop-place.invariant.0 (c.is_short.ensures.high (search rules)),
      All-more IsShort c.args.steps.now c.loop-place.place no_step (omega (arith, long)) c.loop-place.invariant.1 (c.is_short.ensures.short (search rules)),
    )

pub returns-clause-high : goal.returns-clause-high
returns-clause-high c = λ _. subst (λ x. All IsHigh x) (take_all c.loop-place.place c.args.fields.now (omega arith)) c.loop-place.invariant.0

pub returns-clause-short : goal.returns-clause-short
returns-clause-short c = λ _. subst (λ x. All IsShort x) (take_all c.loop-place.place c.args.steps.now (omega (arith, steps_long c.args.fields.now c.args.steps.now c.requires))) c.loop-place.invariant.1
