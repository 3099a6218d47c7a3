use Rattle.std.proofs.Common.{rules}
use Rattle.deku.proofs.container.taken_bytes.Goals as goal

pub returns : goal.returns
returns c = search rules
