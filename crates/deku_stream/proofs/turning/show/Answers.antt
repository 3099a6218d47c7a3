use Rattle.std.proofs.Common.{rules}
use Rattle.deku_stream.proofs.turning.show.Goals as goal

pub returns-in-Lsb0 : goal.returns-in-Lsb0
returns-in-Lsb0 c = search rules
