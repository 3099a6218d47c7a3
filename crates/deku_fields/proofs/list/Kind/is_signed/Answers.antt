use Rattle.std.proofs.Common.{rules}
use Rattle.deku_fields.proofs.list.Kind.is_signed.Goals as goal

pub returns-in-U8 : goal.returns-in-U8
returns-in-U8 c = search rules

pub returns-in-I8 : goal.returns-in-I8
returns-in-I8 c = search rules
