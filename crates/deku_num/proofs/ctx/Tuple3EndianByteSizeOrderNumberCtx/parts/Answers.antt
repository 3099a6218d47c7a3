use Rattle.std.proofs.Common.{rules}
use Rattle.deku_num.proofs.ctx.Tuple3EndianByteSizeOrderNumberCtx.parts.Goals as goal

pub returns : goal.returns
returns c = search rules
