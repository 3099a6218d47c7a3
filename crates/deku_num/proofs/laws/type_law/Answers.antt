use Rattle.deku_num.proofs.Ranges.{type_law}
use Rattle.deku_num.proofs.laws.type_law.Goals as goal

pub returns : goal.returns
returns c = type_law
