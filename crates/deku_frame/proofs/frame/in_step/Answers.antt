use Rattle.std.proofs.Common.{rules}
use Rattle.deku_frame.proofs.frame.in_step.Goals as goal

pub returns-in-Data : goal.returns-in-Data
returns-in-Data c = search rules

pub returns-in_default : goal.returns-in_default
returns-in_default c = search rules
