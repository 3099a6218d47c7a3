use Rattle.std.proofs.Common.{rules}
use Rattle.deku_writer.proofs.writer.pushing.push_same.Goals as goal

pub returns-clause-pushed : goal.returns-clause-pushed
returns-clause-pushed g c = search rules

pub returns-clause-fault : goal.returns-clause-fault
returns-clause-fault g c = search rules
