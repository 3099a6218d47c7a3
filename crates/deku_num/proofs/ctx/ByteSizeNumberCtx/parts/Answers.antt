use Rattle.std.proofs.Common.{rules}
use Rattle.deku_num.proofs.ctx.ByteSizeNumberCtx.parts.Goals as goal

pub returns : goal.returns
returns c = search rules
