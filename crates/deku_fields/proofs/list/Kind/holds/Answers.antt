use Rattle.std.proofs.Common.{rules}
use Rattle.deku_fields.proofs.list.Kind.holds.Goals as goal

pub returns-then-not-number_type : goal.returns-then-not-number_type
returns-then-not-number_type c = search rules

pub returns-else-not-number_type : goal.returns-else-not-number_type
returns-else-not-number_type c = search rules

pub returns-then-number_type : goal.returns-then-number_type
returns-then-number_type c = search rules

pub returns-else-number_type : goal.returns-else-number_type
returns-else-number_type c = search rules
