use Rattle.deku_num.proofs.WholeTypes.{size_law}
use Rattle.deku_num.proofs.laws.size_law.Goals as goal

pub returns : goal.returns
returns c = size_law
