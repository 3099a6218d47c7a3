use Rattle.std.proofs.Common.{rules}
use Rattle.deku_num.proofs.ctx.EndianDefault.default.Goals as goal

pub returns : goal.returns
returns c = search rules
