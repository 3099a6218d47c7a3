use Rattle.std.proofs.Common.{All, subst}
use Rattle.deku_fields.specs.Items.{IsAllowedField}
use Rattle.deku_plan.proofs.Steps.{all_allowed}
use Rattle.deku_plan.proofs.plan.Plan.fields.Goals as goal

pub returns-clause-allowed : goal.returns-clause-allowed
returns-clause-allowed c = subst (λ x. All IsAllowedField x) c.self.view_is (all_allowed c.self.inside.fields.items c.self.inside.steps.items c.self.invariant.steps)
