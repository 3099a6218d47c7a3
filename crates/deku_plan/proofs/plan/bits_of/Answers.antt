use Rattle.std.proofs.Common.{◌+◌, arith}
use Rattle.deku_plan.proofs.Steps.{no_step, widths_more, widths_front}
use Rattle.deku_plan.proofs.plan.bits_of.Goals as goal

pub loop-step-preserved : goal.loop-step-preserved
loop-step-preserved c =
    let more = widths_more c.args.steps.now c.loop-step.step-index no_step (omega arith) in
    omega (arith, c.loop-step.invariant, more)

pub returns-in_err-bits-clause-none : goal.returns-in_err-bits-clause-none
returns-in_err-bits-clause-none c = λ _.
    grind (arith, c.loop-step.invariant, widths_more c.args.steps.now c.loop-step.step-index no_step (omega arith), widths_front c.args.steps.now (c.loop-step.step-index + 1))
