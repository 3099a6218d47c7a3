use Rattle.std.proofs.Common.{All, take}
use Rattle.deku_plan.specs.Plans.{IsHigh}
use Rattle.deku_plan.specs.Laying.{IsShort}
use Rattle.deku_plan.proofs.plan.are_short.Given as goal

abbrev pub invariant-loop-place : goal.invariant-loop-place
invariant-loop-place l = All IsHigh (take l.place l.fields) × All IsShort (take l.place l.steps)
