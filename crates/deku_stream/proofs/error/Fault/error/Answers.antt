use Rattle.std.proofs.Common.{rules}
use Rattle.deku_stream.proofs.error.Fault.error.Goals as goal

pub returns-in-Incomplete : goal.returns-in-Incomplete
returns-in-Incomplete c = search rules

pub returns-in-Io : goal.returns-in-Io
returns-in-Io c = search rules
