use Rattle.deku_frame.proofs.Promise.{write_law}
use Rattle.deku_frame.proofs.frame.laws.write_law.Goals as goal

pub returns : goal.returns
returns c = write_law
