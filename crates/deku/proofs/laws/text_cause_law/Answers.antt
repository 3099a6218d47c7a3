use Rattle.std.proofs.Common.{◌*◌}
use Rattle.deku_bits.specs.declared.ctx.Order.TheVariants.{Lsb0}
use Rattle.deku.proofs.Causes.{text_to_zero, text_within, exact_bytes}
use Rattle.deku.proofs.laws.text_cause_law.Goals as goal

pub returns-clause-to_zero : goal.returns-clause-to_zero
returns-clause-to_zero c = text_to_zero

pub returns-clause-within : goal.returns-clause-within
returns-clause-within c n = text_within (n.0)

pub returns-clause-exact : goal.returns-clause-exact
returns-clause-exact c n = exact_bytes (λ v. v.items) Lsb0 (8 * n.0)
