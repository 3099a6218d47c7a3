use Rattle.std.proofs.Common.{rules}
use Rattle.deku_device.proofs.noseek.NoSeekSource.seek_to.Goals as goal

pub returns-clause-all : goal.returns-clause-all
returns-clause-all g c = search rules

pub returns-clause-here : goal.returns-clause-here
returns-clause-here g c = search rules

pub returns-clause-moves : goal.returns-clause-moves
returns-clause-moves g c = search rules

pub returns-clause-refused : goal.returns-clause-refused
returns-clause-refused g c = search rules

pub returns-clause-stays : goal.returns-clause-stays
returns-clause-stays g c = search rules
