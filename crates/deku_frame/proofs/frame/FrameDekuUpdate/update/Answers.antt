use Rattle.std.proofs.Common.{rules}
use Rattle.deku_frame.proofs.frame.FrameDekuUpdate.update.Goals as goal

pub returns-in_err-length : goal.returns-in_err-length
returns-in_err-length c = search rules

pub returns : goal.returns
returns c = search rules
