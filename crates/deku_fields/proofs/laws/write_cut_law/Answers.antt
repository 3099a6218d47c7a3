use Rattle.deku_fields.proofs.Cuts.{write_cut}
use Rattle.deku_fields.proofs.laws.write_cut_law.Goals as goal

pub returns : goal.returns
returns c = write_cut
