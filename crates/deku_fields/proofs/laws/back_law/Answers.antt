use Rattle.deku_fields.proofs.FieldLists.{back_law}
use Rattle.deku_fields.proofs.laws.back_law.Goals as goal

pub returns : goal.returns
returns c = back_law
