use Rattle.std.proofs.Common.{rules}
use Rattle.deku_device.proofs.Wholes.{onward_same, read_onward, nowhere, slice_onward, vector_onward}
use Rattle.deku_device.proofs.device.cursor.CursorSource.try_take.Goals as goal

pub returns-clause-ahead : goal.returns-clause-ahead
returns-clause-ahead g c = search rules

pub returns-clause-bytes : goal.returns-clause-bytes
returns-clause-bytes g c = search rules

pub returns-clause-inner : goal.returns-clause-inner
returns-clause-inner g c = search rules

pub returns-clause-kept : goal.returns-clause-kept
returns-clause-kept g c = search (rules, onward_same, read_onward, nowhere, slice_onward, vector_onward)

pub returns-clause-none : goal.returns-clause-none
returns-clause-none g c = search rules

pub returns-clause-place : goal.returns-clause-place
returns-clause-place g c = search rules

pub returns-clause-short : goal.returns-clause-short
returns-clause-short g c = search rules

pub returns-in_err-eight-clause-ahead : goal.returns-in_err-eight-clause-ahead
returns-in_err-eight-clause-ahead g c = search rules

pub returns-in_err-eight-clause-bytes : goal.returns-in_err-eight-clause-bytes
returns-in_err-eight-clause-bytes g c = search rules

pub returns-in_err-eight-clause-inner : goal.returns-in_err-eight-clause-inner
returns-in_err-eight-clause-inner g c = search rules

pub returns-in_err-eight-clause-kept : goal.returns-in_err-eight-clause-kept
returns-in_err-eight-clause-kept g c = search (rules, onward_same, read_onward, nowhere, slice_onward, vector_onward)

pub returns-in_err-eight-clause-none : goal.returns-in_err-eight-clause-none
returns-in_err-eight-clause-none g c = search rules

pub returns-in_err-eight-clause-place : goal.returns-in_err-eight-clause-place
returns-in_err-eight-clause-place g c = search rules

pub returns-in_err-eight-clause-short : goal.returns-in_err-eight-clause-short
returns-in_err-eight-clause-short g c = search rules
