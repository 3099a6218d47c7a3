use Rattle.std.proofs.Common.{rules}
use Rattle.deku_fields.proofs.write.fitting.Goals as goal

pub returns-then-is_below-clause-same : goal.returns-then-is_below-clause-same
returns-then-is_below-clause-same c = search rules

pub returns-then-is_below-clause-below : goal.returns-then-is_below-clause-below
returns-then-is_below-clause-below c = search rules

pub returns-else-is_below-clause-same : goal.returns-else-is_below-clause-same
returns-else-is_below-clause-same c = search rules

pub returns-else-is_below-clause-below : goal.returns-else-is_below-clause-below
returns-else-is_below-clause-below c = search rules
