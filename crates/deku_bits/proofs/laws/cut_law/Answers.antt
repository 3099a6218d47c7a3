use Rattle.deku_stream.proofs.Taking.{cut_law}
use Rattle.deku_bits.proofs.laws.cut_law.Goals as goal

pub returns : goal.returns
returns c = cut_law
