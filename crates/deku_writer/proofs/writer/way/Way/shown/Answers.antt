use Rattle.std.proofs.Common.{rules}
use Rattle.deku_writer.proofs.writer.way.Way.shown.Goals as goal

pub returns-in-Msb0-clause-whole : goal.returns-in-Msb0-clause-whole
returns-in-Msb0-clause-whole c = search rules

pub returns-then-n-eq0-clause-whole : goal.returns-then-n-eq0-clause-whole
returns-then-n-eq0-clause-whole c = search rules

pub returns-else-n-eq0-clause-whole : goal.returns-else-n-eq0-clause-whole
returns-else-n-eq0-clause-whole c = search rules
