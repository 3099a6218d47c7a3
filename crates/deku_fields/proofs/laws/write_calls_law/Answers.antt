use Rattle.deku_fields.proofs.Cuts.{write_calls}
use Rattle.deku_fields.proofs.laws.write_calls_law.Goals as goal

pub returns : goal.returns
returns c = write_calls
