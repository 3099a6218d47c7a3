use Rattle.deku_num.proofs.Ranges.{split_law}
use Rattle.deku_num.proofs.laws.split_law.Goals as goal

pub returns : goal.returns
returns c = split_law
