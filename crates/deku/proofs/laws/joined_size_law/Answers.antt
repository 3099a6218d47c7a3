use Rattle.deku.proofs.Extending.{joined_sized}
use Rattle.deku.proofs.laws.joined_size_law.Goals as goal

pub returns : goal.returns
returns g c x v w n k p q = joined_sized _ _ n k p q
