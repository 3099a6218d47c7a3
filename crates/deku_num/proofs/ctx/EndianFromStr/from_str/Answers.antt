use Rattle.std.proofs.Common.{rules}
use Rattle.deku_num.proofs.ctx.EndianFromStr.from_str.Goals as goal

pub returns-in-little : goal.returns-in-little
returns-in-little c = search rules

pub returns-in-big : goal.returns-in-big
returns-in-big c = search rules

pub returns-in_default : goal.returns-in_default
returns-in_default c = search rules
