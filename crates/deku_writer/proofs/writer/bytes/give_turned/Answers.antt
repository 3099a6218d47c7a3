use Rattle.std.proofs.Common.{rules}
use Rattle.deku_writer.proofs.writer.bytes.give_turned.Goals as goal

pub returns-clause-gave : goal.returns-clause-gave
returns-clause-gave g c = search rules

pub returns-clause-fault : goal.returns-clause-fault
returns-clause-fault g c = search rules
