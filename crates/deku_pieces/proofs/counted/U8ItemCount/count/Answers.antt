use Rattle.std.proofs.Common.{rules}
use Rattle.deku_pieces.proofs.counted.U8ItemCount.count.Goals as goal

pub returns : goal.returns
returns c = search rules
