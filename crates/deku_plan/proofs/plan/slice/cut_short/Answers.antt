use Rattle.std.proofs.Common.{◌<◌, length, ◌∙◌, arith}
use Rattle.std.proofs.lemmas.List.{length-set}
use Rattle.deku_plan.proofs.Steps.{no_field, no_step, steps_long, step_at}
use Rattle.deku_plan.proofs.Recorded.{step_some, step_next, step_within, at_more}
use Rattle.deku_plan.proofs.plan.slice.cut_short.Goals as goal

pub bounds-steps-place : goal.bounds-steps-place
bounds-steps-place c = omega (arith, steps_long c.args.fields.now c.args.steps.now c.requires.steps)

pub short_at-requires-clause-step : goal.short_at-requires-clause-step
short_at-requires-clause-step c = step_at c.args.fields.now c.args.steps.now c.loop-place.place _ _ c.requires.steps (omega arith)

pub short_at-requires-clause-some : goal.short_at-requires-clause-some
short_at-requires-clause-some c = step_some c.args.fields.now c.args.steps.now c.loop-place.place no_field no_step c.requires.steps c.requires.straight (omega arith)

pub short_at-requires-clause-high : goal.short_at-requires-clause-high
short_at-requires-clause-high c = c.requires.high c.loop-place.place no_field (omega arith)

pub short_at-requires-clause-few : goal.short_at-requires-clause-few
short_at-requires-clause-few c = let h = c.requires.short c.loop-place.place no_step (omega (arith, steps_long c.args.fields.now c.args.steps.now c.requires.steps)) in h.few

pub short_at-requires-clause-there : goal.short_at-requires-clause-there
short_at-requires-clause-there c =
    omega (arith, c.loop-place.invariant.0, c.requires.there, step_within c.args.fields.now c.args.steps.now c.loop-place.place no_field no_step c.requires.steps (omega arith))

pub overflow_add-at : goal.overflow_add-at
overflow_add-at c =
    omega (arith, c.loop-place.invariant.0, c.requires.counted, step_within c.args.fields.now c.args.steps.now c.loop-place.place no_field no_step c.requires.steps (omega arith))

pub loop-place-preserved : goal.loop-place-preserved
loop-place-preserved c =
    let lt : c.loop-place.place < length c.args.fields.now = omega arith in (
      omega (arith, c.loop-place.invariant.0, step_next c.args.fields.now c.args.steps.now c.loop-place.place no_field no_step c.requires.steps lt),
      length-set c.loop-place.out c.loop-place.place c.short_at.result ∙ c.loop-place.invariant.1,
      at_more c.args.fields.now c.loop-place.place _ c.args.bytes.now c.args.bit c.loop-place.at c.loop-place.out c.short_at.result lt (omega (arith, c.loop-place.invariant.1, c.requires.places))
          c.loop-place.invariant.0 c.loop-place.invariant.2 c.short_at.ensures,
    )
