use Rattle.std.proofs.Common.{rules}
use Rattle.deku_num.proofs.size.shapes.Tuple1DekuSize.size_bits.Goals as goal

pub returns : goal.returns
returns g c = search rules
