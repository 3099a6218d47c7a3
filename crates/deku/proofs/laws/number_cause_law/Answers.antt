use Rattle.deku.proofs.Causes.{reads_number, writes_number}
use Rattle.deku.proofs.laws.number_cause_law.Goals as goal

pub returns-clause-reads : goal.returns-clause-reads
returns-clause-reads c = reads_number

pub returns-clause-writes : goal.returns-clause-writes
returns-clause-writes c = writes_number
