use Rattle.std.proofs.Common.{rules}
use Rattle.deku_writer.proofs.writer.Writer.leftover.Goals as goal

pub returns-clause-bits : goal.returns-clause-bits
returns-clause-bits g c = search rules

pub returns-clause-order : goal.returns-clause-order
returns-clause-order g c = search rules
