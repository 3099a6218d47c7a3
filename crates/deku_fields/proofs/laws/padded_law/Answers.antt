use Rattle.deku_fields.proofs.Padded.{padded_law}
use Rattle.deku_fields.proofs.laws.padded_law.Goals as goal

pub returns : goal.returns
returns c = padded_law
