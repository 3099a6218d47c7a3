use Rattle.std.proofs.Common.{rules}
use Rattle.deku_frame.proofs.frame.Frame.id.Goals as goal

pub returns-in-Ping : goal.returns-in-Ping
returns-in-Ping c = search rules

pub returns-in-Data : goal.returns-in-Data
returns-in-Data c = search rules

pub returns-in-Pair : goal.returns-in-Pair
returns-in-Pair c = search rules
