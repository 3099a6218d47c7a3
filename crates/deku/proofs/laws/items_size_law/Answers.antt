use Rattle.deku.proofs.Extending.{items_sized}
use Rattle.deku.proofs.laws.items_size_law.Goals as goal

pub returns : goal.returns
returns g c x vs k h = items_sized _ k vs h
