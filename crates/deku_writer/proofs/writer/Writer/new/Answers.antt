use Rattle.std.proofs.Common.{rules}
use Rattle.deku_writer.proofs.writer.Writer.new.Goals as goal

pub returns-clause-sink : goal.returns-clause-sink
returns-clause-sink g c = search rules

pub returns-clause-state : goal.returns-clause-state
returns-clause-state g c = search rules
