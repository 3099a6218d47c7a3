use Rattle.std.proofs.Common.{rules}
use Rattle.deku_fields.proofs.list.is_within.Goals as goal

pub returns-then-value-ge0 : goal.returns-then-value-ge0
returns-then-value-ge0 c = search rules

pub returns-else-value-ge0 : goal.returns-else-value-ge0
returns-else-value-ge0 c = search rules
