use Rattle.std.proofs.Common.{rules}
use Rattle.deku_meanings.proofs.ctx.Limit+T+Never.new_byte_size.Goals as goal

pub returns : goal.returns
returns g c = search rules
