use Rattle.std.proofs.Common.{◌≡◌, ◌*◌, length, take}
use Rattle.deku_plan.specs.Laying.{turns, AreFitting}
use Rattle.deku_plan.proofs.lay.are_fitting.Given as goal

abbrev pub invariant-loop : goal.invariant-loop
invariant-loop l = (l.place ≡ l.counter * length l.steps) × AreFitting (turns l.counter l.steps) (take l.place l.values)
