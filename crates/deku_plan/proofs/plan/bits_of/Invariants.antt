use Rattle.std.proofs.Common.{◌≡◌, take}
use Rattle.deku_plan.specs.Plans.{widths}
use Rattle.deku_plan.proofs.plan.bits_of.Given as goal

abbrev pub invariant-loop-step : goal.invariant-loop-step
invariant-loop-step l = l.bits ≡ widths (take l.step-index l.steps)
