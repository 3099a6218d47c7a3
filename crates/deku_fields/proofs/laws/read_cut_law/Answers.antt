use Rattle.deku_fields.proofs.Cuts.{read_cut}
use Rattle.deku_fields.proofs.laws.read_cut_law.Goals as goal

pub returns : goal.returns
returns c = read_cut
