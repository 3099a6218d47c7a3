use Rattle.std.proofs.Common.{◌≡◌, take}
use Rattle.deku_plan.specs.Laying.{AreFitting}
use Rattle.deku_plan.proofs.lay.is_fitting.Given as goal

abbrev pub invariant-loop-place : goal.invariant-loop-place
invariant-loop-place l = l.beyond ≡ 0 → AreFitting (take l.place l.steps) (take l.place l.values)
