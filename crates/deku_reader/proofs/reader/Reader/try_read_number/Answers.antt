use Rattle.std.proofs.Common.{rules}
use Rattle.deku_reader.proofs.reader.Reader.try_read_number.Goals as goal

pub returns-clause-takes : goal.returns-clause-takes
returns-clause-takes g c = search rules

pub returns-clause-below : goal.returns-clause-below
returns-clause-below g c = search rules

pub returns-clause-fetched : goal.returns-clause-fetched
returns-clause-fetched g c = search rules

pub returns-clause-early : goal.returns-clause-early
returns-clause-early g c = search rules

pub returns-clause-still : goal.returns-clause-still
returns-clause-still g c = search rules

pub returns-clause-stays : goal.returns-clause-stays
returns-clause-stays g c = search rules

pub returns-clause-stopped : goal.returns-clause-stopped
returns-clause-stopped g c = search rules

pub returns-clause-alloc : goal.returns-clause-alloc
returns-clause-alloc g c = search rules

pub returns-clause-held : goal.returns-clause-held
returns-clause-held g c = search rules
