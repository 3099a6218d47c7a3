use Rattle.std.proofs.Common.{rules}
use Rattle.deku_stream.proofs.ctx.OrderDefault.default.Goals as goal

pub returns : goal.returns
returns c = search rules
