use Rattle.std.proofs.Common.{rules}
use Rattle.deku_writer.proofs.writer.words.is_behind.Goals as goal

pub returns-then-len-eq0 : goal.returns-then-len-eq0
returns-then-len-eq0 c = search rules

pub returns-else-len-eq0 : goal.returns-else-len-eq0
returns-else-len-eq0 c = search rules
