use Rattle.std.proofs.Common.{rules}
use Rattle.deku_reader.proofs.reader.Reader.read_bytes_const.Goals as goal

pub returns-clause-reads : goal.returns-clause-reads
returns-clause-reads g c = search rules

pub returns-clause-fetched : goal.returns-clause-fetched
returns-clause-fetched g c = search rules

pub returns-clause-early : goal.returns-clause-early
returns-clause-early g c = search rules

pub returns-clause-still : goal.returns-clause-still
returns-clause-still g c = search rules

pub returns-clause-stopped : goal.returns-clause-stopped
returns-clause-stopped g c = search rules

pub returns-clause-alloc : goal.returns-clause-alloc
returns-clause-alloc g c = search rules
