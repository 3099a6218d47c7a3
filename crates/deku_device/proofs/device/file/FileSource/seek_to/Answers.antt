use Rattle.std.proofs.Common.{rules}
use Rattle.deku_device.proofs.Wholes.{onward_same, read_onward, nowhere, slice_onward, vector_onward}
use Rattle.deku_device.proofs.device.file.FileSource.seek_to.Goals as goal

pub returns-clause-all : goal.returns-clause-all
returns-clause-all c = search rules

pub returns-clause-remaining : goal.returns-clause-remaining
returns-clause-remaining c = search rules

pub returns-clause-moves : goal.returns-clause-moves
returns-clause-moves c = search rules

pub returns-clause-refused : goal.returns-clause-refused
returns-clause-refused c = search rules

pub returns-clause-sought : goal.returns-clause-sought
returns-clause-sought c = search (rules, onward_same, read_onward, nowhere, slice_onward, vector_onward)
