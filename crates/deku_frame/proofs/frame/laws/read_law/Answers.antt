use Rattle.deku_frame.proofs.Promise.{read_back_law}
use Rattle.deku_frame.proofs.frame.laws.read_law.Goals as goal

pub returns : goal.returns
returns c = read_back_law
