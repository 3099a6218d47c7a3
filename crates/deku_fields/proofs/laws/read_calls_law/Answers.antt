use Rattle.deku_fields.proofs.Cuts.{read_calls}
use Rattle.deku_fields.proofs.laws.read_calls_law.Goals as goal

pub returns : goal.returns
returns c = read_calls
