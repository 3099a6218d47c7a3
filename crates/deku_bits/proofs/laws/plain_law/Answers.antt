use Rattle.deku_bits.proofs.WholeLaws.{plain_law}
use Rattle.deku_bits.proofs.laws.plain_law.Goals as goal

pub returns : goal.returns
returns c = plain_law
