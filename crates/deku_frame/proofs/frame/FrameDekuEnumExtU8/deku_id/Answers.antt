use Rattle.std.proofs.Common.{rules}
use Rattle.deku_frame.proofs.frame.FrameDekuEnumExtU8.deku_id.Goals as goal

pub returns : goal.returns
returns c = search rules
