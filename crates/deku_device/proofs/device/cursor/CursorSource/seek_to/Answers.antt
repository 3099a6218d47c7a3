use Rattle.std.proofs.Common.{rules}
use Rattle.deku_device.proofs.Wholes.{onward_same, read_onward, nowhere, slice_onward, vector_onward}
use Rattle.deku_device.proofs.device.cursor.CursorSource.seek_to.Goals as goal

pub returns-clause-all : goal.returns-clause-all
returns-clause-all g c = search rules

pub returns-clause-remaining : goal.returns-clause-remaining
returns-clause-remaining g c = search (rules, onward_same, read_onward, nowhere, slice_onward, vector_onward)

pub returns-clause-inner : goal.returns-clause-inner
returns-clause-inner g c = search rules

pub returns-clause-moves : goal.returns-clause-moves
returns-clause-moves g c = search rules

pub returns-clause-refused : goal.returns-clause-refused
returns-clause-refused g c = search (rules, onward_same, read_onward, nowhere, slice_onward, vector_onward)

pub returns-clause-sought : goal.returns-clause-sought
returns-clause-sought g c = search (rules, onward_same, read_onward, nowhere, slice_onward, vector_onward)
