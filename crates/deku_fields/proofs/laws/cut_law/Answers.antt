use Rattle.deku_fields.proofs.Cutting.{cut_law}
use Rattle.deku_fields.proofs.laws.cut_law.Goals as goal

pub returns : goal.returns
returns c = cut_law
