use Rattle.std.proofs.Common.{rules}
use Rattle.deku_picture.proofs.program.FailureFromIoError.from.Goals as goal

pub returns : goal.returns
returns c = search rules
