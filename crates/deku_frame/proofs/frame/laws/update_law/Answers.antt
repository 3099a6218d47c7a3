use Rattle.deku_frame.proofs.Having.{update_law}
use Rattle.deku_frame.proofs.frame.laws.update_law.Goals as goal

pub returns : goal.returns
returns c = update_law
