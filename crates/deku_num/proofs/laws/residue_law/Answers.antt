use Rattle.deku_num.proofs.Listing.{residue_law}
use Rattle.deku_num.proofs.laws.residue_law.Goals as goal

pub returns : goal.returns
returns c = residue_law
