use Rattle.deku_num.proofs.Ranges.{byte_law}
use Rattle.deku_num.proofs.laws.byte_law.Goals as goal

pub returns : goal.returns
returns c = byte_law
