use Rattle.std.proofs.Common.{rules}
use Rattle.deku_num.proofs.size.I128DekuSize.size_bits.Goals as goal

pub returns : goal.returns
returns c = search rules

pub overflow_cast-result : goal.overflow_cast-result
overflow_cast-result c = search rules
