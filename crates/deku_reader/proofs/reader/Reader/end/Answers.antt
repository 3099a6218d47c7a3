use Rattle.std.proofs.Common.{rules}
use Rattle.deku_reader.proofs.reader.Reader.end.Goals as goal

pub returns-clause-reads : goal.returns-clause-reads
returns-clause-reads g c = search rules

pub returns-clause-fetched : goal.returns-clause-fetched
returns-clause-fetched g c = search rules

pub returns-clause-held : goal.returns-clause-held
returns-clause-held g c = search rules

pub returns-clause-stopped : goal.returns-clause-stopped
returns-clause-stopped g c = search rules
