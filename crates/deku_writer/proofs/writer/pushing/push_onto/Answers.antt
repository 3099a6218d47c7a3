use Rattle.std.proofs.Common.{rules}
use Rattle.deku_writer.proofs.Onto.{stopped_onto}
use Rattle.deku_writer.proofs.writer.pushing.push_onto.Goals as goal

pub returns-then-len-eq0-clause-fault : goal.returns-then-len-eq0-clause-fault
returns-then-len-eq0-clause-fault g c = search (rules, stopped_onto)

pub returns-in-Msb0-Lsb0-clause-fault : goal.returns-in-Msb0-Lsb0-clause-fault
returns-in-Msb0-Lsb0-clause-fault g c = search (rules, stopped_onto)

pub returns-in-Lsb0-Msb0-clause-fault : goal.returns-in-Lsb0-Msb0-clause-fault
returns-in-Lsb0-Msb0-clause-fault g c = search (rules, stopped_onto)

pub returns-in-Msb0-Msb0-clause-fault : goal.returns-in-Msb0-Msb0-clause-fault
returns-in-Msb0-Msb0-clause-fault g c = search (rules, stopped_onto)
