use Rattle.deku_fields.proofs.FieldLists.{calls_law}
use Rattle.deku_fields.proofs.laws.calls_law.Goals as goal

pub returns : goal.returns
returns c = calls_law
