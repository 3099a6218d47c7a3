use Rattle.std.proofs.Common.{arith}
use Rattle.deku_plan.proofs.plan.read.high_width.Goals as goal

pub returns-then-step-clause-few : goal.returns-then-step-clause-few
returns-then-step-clause-few c = omega (arith, c.requires.wide, (c.requires.high c.if-step.true).few)
