use Rattle.deku_plan.proofs.Parsing.{AreGood}
use Rattle.deku_plan.proofs.plan.Plan.parse.Given as goal

abbrev pub invariant-loop-index : goal.invariant-loop-index
invariant-loop-index l = AreGood l.words l.index l.fields.items
