use Rattle.std.proofs.Common.{rules}
use Rattle.deku_device.proofs.Wholes.{onward_same, read_onward, nowhere, slice_onward, vector_onward}
use Rattle.deku_device.proofs.device.cursor.CursorSource.pass.Goals as goal

pub returns-clause-bytes : goal.returns-clause-bytes
returns-clause-bytes g c = search (rules, onward_same, read_onward, nowhere, slice_onward, vector_onward)

pub returns-clause-inner : goal.returns-clause-inner
returns-clause-inner g c = search rules

pub returns-clause-kept : goal.returns-clause-kept
returns-clause-kept g c = search (rules, onward_same, read_onward, nowhere, slice_onward, vector_onward)

pub returns-clause-ok : goal.returns-clause-ok
returns-clause-ok g c = search rules

pub returns-clause-place : goal.returns-clause-place
returns-clause-place g c = search (rules, onward_same, read_onward, nowhere, slice_onward, vector_onward)
