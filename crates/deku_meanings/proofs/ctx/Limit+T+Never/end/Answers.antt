use Rattle.std.proofs.Common.{rules}
use Rattle.deku_meanings.proofs.ctx.Limit+T+Never.end.Goals as goal

pub returns : goal.returns
returns g c = search rules
