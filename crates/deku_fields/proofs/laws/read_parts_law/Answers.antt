use Rattle.deku_fields.proofs.Cuts.{read_parts}
use Rattle.deku_fields.proofs.laws.read_parts_law.Goals as goal

pub returns : goal.returns
returns c = read_parts
