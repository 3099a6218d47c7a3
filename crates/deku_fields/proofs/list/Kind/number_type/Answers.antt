use Rattle.std.proofs.Common.{rules}
use Rattle.deku_fields.proofs.list.Kind.number_type.Goals as goal

pub returns-in-U8 : goal.returns-in-U8
returns-in-U8 c = search rules

pub returns-in_default : goal.returns-in_default
returns-in_default c = search rules
