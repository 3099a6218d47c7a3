use Rattle.deku_frame.proofs.Promise.{rewrite_frame_law}
use Rattle.deku_frame.proofs.frame.laws.rewrite_law.Goals as goal

pub returns : goal.returns
returns c = rewrite_frame_law
