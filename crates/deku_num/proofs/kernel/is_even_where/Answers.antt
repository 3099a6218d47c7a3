use Rattle.std.proofs.Common.{rules}
use Rattle.deku_num.proofs.kernel.is_even_where.Goals as goal

pub returns-then-width-le8 : goal.returns-then-width-le8
returns-then-width-le8 c = search rules

pub returns-else-width-le8 : goal.returns-else-width-le8
returns-else-width-le8 c = search rules

pub returns-in_default : goal.returns-in_default
returns-in_default c = search rules

pub returns-in_default-2 : goal.returns-in_default-2
returns-in_default-2 c = search rules

pub returns-in_default-3 : goal.returns-in_default-3
returns-in_default-3 c = search rules
