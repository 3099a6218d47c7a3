use Rattle.deku_fields.proofs.ReadBack.{read_back}
use Rattle.deku_fields.proofs.laws.read_back_law.Goals as goal

pub returns : goal.returns
returns c = read_back
