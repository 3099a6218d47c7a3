use Rattle.std.proofs.Common.{rules}
use Rattle.deku_fields.proofs.program.FailureFromAllocFailed.from.Goals as goal

pub returns : goal.returns
returns g c = search rules
