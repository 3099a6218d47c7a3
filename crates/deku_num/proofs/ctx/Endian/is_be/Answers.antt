use Rattle.std.proofs.Common.{rules}
use Rattle.deku_num.proofs.ctx.Endian.is_be.Goals as goal

pub returns-in-Big : goal.returns-in-Big
returns-in-Big c = search rules

pub returns-in_default : goal.returns-in_default
returns-in_default c = search rules
