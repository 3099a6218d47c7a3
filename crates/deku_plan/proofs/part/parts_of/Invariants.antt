use Rattle.std.proofs.Common.{◌*◌, ◌≤◌, take}
use Rattle.deku_plan.specs.Joining.{AreParts}
use Rattle.deku_plan.proofs.part.parts_of.Given as goal

abbrev pub invariant-loop-place : goal.invariant-loop-place
invariant-loop-place l = AreParts 0 (take l.place l.steps) l.parts.items l.held × (l.held ≤ 64) × (l.held ≤ 64 * l.place)
