use Rattle.deku_fields.proofs.FieldLists.{layout_law}
use Rattle.deku_fields.proofs.laws.layout_law.Goals as goal

pub returns : goal.returns
returns c = layout_law
