use Rattle.std.proofs.Common.{rules}
use Rattle.deku_num.proofs.size.ArrayDekuSize.size_bits.Goals as goal

pub returns-then-this-eq0 : goal.returns-then-this-eq0
returns-then-this-eq0 g c = search rules

pub returns-in-None : goal.returns-in-None
returns-in-None g c = search rules
