use Rattle.deku_bits.proofs.Causes.{cause_law}
use Rattle.deku_bits.proofs.laws.cause_law.Goals as goal

pub returns : goal.returns
returns c = cause_law
