use Rattle.std.proofs.Common.{rules}
use Rattle.deku_num.proofs.ctx.Tuple2BitSizeOrderNumberCtx.parts.Goals as goal

pub returns : goal.returns
returns c = search rules
