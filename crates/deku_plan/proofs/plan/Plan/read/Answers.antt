use Rattle.std.proofs.Common.{◌∙◌}
use Rattle.deku_plan.proofs.plan.Plan.read.Goals as goal

pub returns-clause-values : goal.returns-clause-values
returns-clause-values g c = let same = c.as_slice-fields.ensures.value ∙ c.self.view_is in rw same at c.read_steps.ensures.values

pub returns-clause-behind : goal.returns-clause-behind
returns-clause-behind g c = let same = c.as_slice-fields.ensures.value ∙ c.self.view_is in rw same at c.read_steps.ensures.behind
