use Rattle.deku_fields.proofs.Cuts.{look}
use Rattle.deku_fields.proofs.laws.look_law.Goals as goal

pub returns : goal.returns
returns c = look
