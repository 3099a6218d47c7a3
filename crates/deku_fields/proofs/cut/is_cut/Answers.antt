use Rattle.std.proofs.Common.{rules}
use Rattle.deku_fields.proofs.cut.is_cut.Goals as goal

pub returns-in-Bytes : goal.returns-in-Bytes
returns-in-Bytes c = search rules

pub returns-in_default : goal.returns-in_default
returns-in_default c = search rules
