use Rattle.std.proofs.Common.{rules}
use Rattle.deku_reading.proofs.impls.array.ArrayArrayLike.empty.Goals as goal

pub returns : goal.returns
returns g c = search rules
