use Rattle.std.proofs.Common.{rules, arith}
use Rattle.std.proofs.lemmas.Grind.{common_steps}
use Rattle.deku_pieces.proofs.scattered.high_bits.Goals as goal

pub returns-then-value-ge0 : goal.returns-then-value-ge0
returns-then-value-ge0 c = search rules

pub returns-else-value-ge0 : goal.returns-else-value-ge0
returns-else-value-ge0 c = grind (arith, common_steps)
