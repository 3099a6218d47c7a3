use Rattle.std.proofs.lemmas.Grind.{common_steps}
use Rattle.std.proofs.Common.{rules, arith}
use Rattle.deku.proofs.container.joined_bits.Goals as goal

pub returns-clause-bits : goal.returns-clause-bits
returns-clause-bits c = grind (arith, common_steps)
