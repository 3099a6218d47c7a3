use Rattle.deku_num.proofs.Ranges.{group_law}
use Rattle.deku_num.proofs.laws.group_law.Goals as goal

pub returns : goal.returns
returns c = group_law
