use Rattle.std.proofs.Common.{rules}
use Rattle.deku_num.proofs.ctx.BitSize.of.Goals as goal

pub returns : goal.returns
returns g c = search rules
