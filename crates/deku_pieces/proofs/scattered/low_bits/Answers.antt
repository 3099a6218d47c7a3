use Rattle.std.proofs.Common.{rules}
use Rattle.deku_pieces.proofs.scattered.low_bits.Goals as goal

pub returns-then-value-ge0 : goal.returns-then-value-ge0
returns-then-value-ge0 c = search rules

pub returns-else-value-ge0 : goal.returns-else-value-ge0
returns-else-value-ge0 c = search rules
