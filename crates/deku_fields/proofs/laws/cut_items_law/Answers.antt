use Rattle.deku_fields.proofs.Cutting.{cut_items_law}
use Rattle.deku_fields.proofs.laws.cut_items_law.Goals as goal

pub returns : goal.returns
returns c = cut_items_law
