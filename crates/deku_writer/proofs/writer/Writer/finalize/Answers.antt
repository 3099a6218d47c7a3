use Rattle.std.proofs.Common.{rules}
use Rattle.deku_writer.proofs.writer.Writer.finalize.Goals as goal

pub returns-clause-writes : goal.returns-clause-writes
returns-clause-writes g c = search rules

pub returns-clause-stopped : goal.returns-clause-stopped
returns-clause-stopped g c = search rules
