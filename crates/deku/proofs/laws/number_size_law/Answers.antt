use Rattle.deku.proofs.Whole.{number_sized}
use Rattle.deku.proofs.laws.number_size_law.Goals as goal

pub returns : goal.returns
returns c = number_sized
