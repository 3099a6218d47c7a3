use Rattle.std.proofs.Common.{take}
use Rattle.deku_plan.specs.Plans.{AreSteps}
use Rattle.deku_plan.proofs.Steps.{AreCounted}
use Rattle.deku_plan.proofs.plan.steps_of.Given as goal

abbrev pub invariant-loop-field : goal.invariant-loop-field
invariant-loop-field l = AreSteps (take l.field-index l.fields) l.steps.items × AreCounted l.first l.steps.items
