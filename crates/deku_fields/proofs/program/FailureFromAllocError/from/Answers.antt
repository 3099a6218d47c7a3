use Rattle.std.proofs.Common.{rules}
use Rattle.deku_fields.proofs.program.FailureFromAllocError.from.Goals as goal

pub returns : goal.returns
returns c = search rules
