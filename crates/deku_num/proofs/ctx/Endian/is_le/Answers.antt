use Rattle.std.proofs.Common.{rules}
use Rattle.deku_num.proofs.ctx.Endian.is_le.Goals as goal

pub returns-in-Little : goal.returns-in-Little
returns-in-Little c = search rules

pub returns-in_default : goal.returns-in_default
returns-in_default c = search rules
