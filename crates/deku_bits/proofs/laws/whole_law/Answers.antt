use Rattle.deku_bits.proofs.WholeLaws.{whole_law}
use Rattle.deku_bits.proofs.laws.whole_law.Goals as goal

pub returns : goal.returns
returns c = whole_law
