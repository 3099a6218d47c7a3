use Rattle.std.proofs.Common.{All, subst, arith, rules}
use Rattle.std.proofs.lemmas.List.{take_all}
use Rattle.std.proofs.lemmas.List.Elements.{All-more}
use Rattle.deku_plan.specs.Records.{IsStraight}
use Rattle.deku_plan.proofs.Steps.{no_field, no_step, steps_long, step_at}
use Rattle.deku_plan.proofs.plan.are_straight.Goals as goal

pub bounds-steps-place : goal.bounds-steps-place
bounds-steps-place c = omega (arith, steps_long c.args.fields.now c.args.steps.now c.requires)

pub is_straight-requires : goal.is_straight-requires
is_straight-requires c = step_at c.args.fields.now c.args.steps.now c.loop-place.place no_field no_step c.requires (omega arith)

pub loop-place-preserved : goal.loop-place-preserved
loop-place-preserved c =
    All-more IsStraight c.args.fields.now c.loop-place.place no_field (omega arith) c.loop-place.invariant
    (c.is_straight.ensures (search rules))

pub returns : goal.returns
returns c = λ _. subst (λ x. All IsStraight x) (take_all c.loop-place.place c.args.fields.now (omega arith)) c.loop-place.invariant
