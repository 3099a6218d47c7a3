use Rattle.deku_fields.proofs.FieldLists.{there_law}
use Rattle.deku_fields.proofs.laws.there_law.Goals as goal

pub returns : goal.returns
returns c = there_law
