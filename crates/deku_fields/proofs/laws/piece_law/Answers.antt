use Rattle.deku_fields.proofs.FieldLists.{piece_law}
use Rattle.deku_fields.proofs.laws.piece_law.Goals as goal

pub returns : goal.returns
returns c = piece_law
