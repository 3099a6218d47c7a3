use Rattle.deku_num.proofs.Places.{bit_law}
use Rattle.deku_num.proofs.laws.bit_law.Goals as goal

pub returns : goal.returns
returns c = bit_law
