use Rattle.std.proofs.Common.{rules}
use Rattle.deku_reader.proofs.reader.Reader.new.Goals as goal

pub returns-clause-source : goal.returns-clause-source
returns-clause-source g c = search rules

pub returns-clause-alloc : goal.returns-clause-alloc
returns-clause-alloc g c = search rules

pub returns-clause-state : goal.returns-clause-state
returns-clause-state g c = search rules
