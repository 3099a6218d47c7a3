use Rattle.deku_fields.proofs.Cuts.{write_parts}
use Rattle.deku_fields.proofs.laws.write_parts_law.Goals as goal

pub returns : goal.returns
returns c = write_parts
