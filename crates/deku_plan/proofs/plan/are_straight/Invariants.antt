use Rattle.std.proofs.Common.{All, take}
use Rattle.deku_plan.specs.Records.{IsStraight}
use Rattle.deku_plan.proofs.plan.are_straight.Given as goal

abbrev pub invariant-loop-place : goal.invariant-loop-place
invariant-loop-place l = All IsStraight (take l.place l.fields)
