use Rattle.std.proofs.Common.{◌≡◌, ◌+◌, length, ap, refl, arith, rules}
use Rattle.deku_bits.proofs.Handing.{passed_on}
use Rattle.deku_fields.proofs.Resting.{rests, rests_in, rests_on, item_going}
use Rattle.deku_fields.proofs.Stepping.{begun}
use Rattle.deku_plan.specs.Plans.{items}
use Rattle.deku_plan.proofs.Steps.{steps_long, step_at}
use Rattle.deku_plan.proofs.Itemized.{next_written, next_refused, all_written}
use Rattle.deku_fields.proofs.Padded.{laid_written}
use Rattle.deku_fields.proofs.Causes.{items_caused}
use Rattle.deku_plan.proofs.plan.write.write_steps.Goals as goal

pub loop-place-init : goal.loop-place-init
loop-place-init g c = (begun (items c.args.fields.now c.args.values.now) _ _, rests c.args.writer.now.state refl, λ _. refl)

pub returns-in_err-write_item-clause-meaning : goal.returns-in_err-write_item-clause-meaning
returns-in_err-write_item-clause-meaning g c = passed_on _ c.from_residual.ensures.1 (next_refused c.args.fields.now c.args.values.now c.loop-place.place _ _ _ _ _ _ _ _ _ c.requires.values (omega arith) (c.loop-place.invariant.0) (c.in_err-write_item.ensures.writes))

pub loop-place-preserved : goal.loop-place-preserved
loop-place-preserved g c = (
  next_written c.args.fields.now c.args.values.now c.loop-place.place _ _ _ _ _ _ _ _ c.requires.values (omega arith) (c.loop-place.invariant.0) (c.in_ok-write_item.ensures.writes),
  item_going _ (g.W.Sink.known c.loop-place.writer.sink) (g.W.Sink.known c.write_item.new.writer.sink) c.args.writer.now.state c.loop-place.writer.state c.write_item.new.writer.state _ _
      (rests_in (λ w. w.state) c.args.writer.now.state c.args.writer.now c.loop-place.writer c.loop-place.invariant.1) c.in_ok-write_item.ensures.writes,
  λ (e : c.loop-place.place + 1 ≡ 0). absurd (omega arith),
)

pub returns-clause-meaning : goal.returns-clause-meaning
returns-clause-meaning g c = all_written c.args.fields.now c.args.values.now c.loop-place.place _ _ _ _ c.requires.values (omega arith) (c.loop-place.invariant.0)

pub returns-clause-laid_out : goal.returns-clause-laid_out
returns-clause-laid_out g c = laid_written (items c.args.fields.now c.args.values.now) (returns-clause-meaning g c)

pub returns-in_err-write_item-clause-laid_out : goal.returns-in_err-write_item-clause-laid_out
returns-in_err-write_item-clause-laid_out g c = laid_written (items c.args.fields.now c.args.values.now) (returns-in_err-write_item-clause-meaning g c)

pub returns-in_err-write_item-clause-stopped : goal.returns-in_err-write_item-clause-stopped
returns-in_err-write_item-clause-stopped g c =
    rests_on c.args.writer.now.state c.loop-place.writer.state c.args.writer.now.sink c.loop-place.writer.sink _
    (rests_in (λ w. w.state) c.args.writer.now.state c.args.writer.now c.loop-place.writer c.loop-place.invariant.1)
    (rests_in (λ w. w.sink) c.args.writer.now.state c.args.writer.now c.loop-place.writer c.loop-place.invariant.1) c.in_err-write_item.ensures.stopped

pub returns-clause-stopped : goal.returns-clause-stopped
returns-clause-stopped g c = rests_in (λ w. w.sink) c.args.writer.now.state c.args.writer.now c.loop-place.writer c.loop-place.invariant.1

pub returns-clause-none : goal.returns-clause-none
returns-clause-none g c = λ e. c.loop-place.invariant.2 (omega (arith, ap length e))

pub returns-in_err-write_item-clause-none : goal.returns-in_err-write_item-clause-none
returns-in_err-write_item-clause-none g c = λ e. absurd (omega (arith, ap length e))

pub returns-in_err-write_item-clause-cause : goal.returns-in_err-write_item-clause-cause
returns-in_err-write_item-clause-cause g c = items_caused (items c.args.fields.now c.args.values.now) (g.W.Sink.known c.args.writer.now.sink) c.args.writer.now.state _ _ _ _ (returns-in_err-write_item-clause-meaning g c)

pub returns-clause-cause : goal.returns-clause-cause
returns-clause-cause g c = search rules

pub bounds-steps-place : goal.bounds-steps-place
bounds-steps-place g c = omega (arith, steps_long c.args.fields.now c.args.steps.now c.requires.steps)

pub write_item-requires : goal.write_item-requires
write_item-requires g c = step_at c.args.fields.now c.args.steps.now c.loop-place.place _ _ c.requires.steps (omega arith)
