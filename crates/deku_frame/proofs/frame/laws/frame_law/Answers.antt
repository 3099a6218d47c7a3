use Rattle.deku_frame.specs.FrameLaws.{frame_symmetric}
use Rattle.deku_frame.proofs.frame.laws.frame_law.Goals as goal

pub returns : goal.returns
returns c = frame_symmetric
