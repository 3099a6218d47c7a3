use Rattle.deku.proofs.Sizing.{items_kept}
use Rattle.deku.proofs.laws.array_extent_law.Goals as goal

pub returns : goal.returns
returns g c vs wide each = items_kept _ _ _ vs wide each
