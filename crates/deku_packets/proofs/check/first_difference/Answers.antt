use Rattle.std.proofs.Common.{arith}
use Rattle.std.proofs.lemmas.Grind.{common_steps}
use Rattle.deku_packets.proofs.check.first_difference.Goals as goal

pub returns-then-read-index : goal.returns-then-read-index
returns-then-read-index c = grind (arith, common_steps)

pub returns-then-read-written : goal.returns-then-read-written
returns-then-read-written c = grind (arith, common_steps)

pub returns-else-read-written : goal.returns-else-read-written
returns-else-read-written c = grind (arith, common_steps)
