use Rattle.std.proofs.Common.{◌≤◌}
use Rattle.deku_plan.proofs.part.goes_on.Given as goal

abbrev pub invariant-loop-step : goal.invariant-loop-step
invariant-loop-step l = l.all ≤ 64
