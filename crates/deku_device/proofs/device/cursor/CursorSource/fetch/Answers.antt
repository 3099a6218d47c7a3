use Rattle.std.proofs.Common.{rules}
use Rattle.deku_device.proofs.Wholes.{onward_same, read_onward, nowhere, slice_onward, vector_onward}
use Rattle.deku_device.proofs.device.cursor.CursorSource.fetch.Goals as goal

pub returns-clause-bytes : goal.returns-clause-bytes
returns-clause-bytes g c = search (rules, onward_same, read_onward, nowhere, slice_onward, vector_onward)

pub returns-clause-inner : goal.returns-clause-inner
returns-clause-inner g c = search rules

pub returns-clause-kept : goal.returns-clause-kept
returns-clause-kept g c = search (rules, onward_same, read_onward, nowhere, slice_onward, vector_onward)

pub returns-clause-place : goal.returns-clause-place
returns-clause-place g c = search (rules, onward_same, read_onward, nowhere, slice_onward, vector_onward)

pub returns-clause-short : goal.returns-clause-short
returns-clause-short g c = search rules

pub returns-clause-stays : goal.returns-clause-stays
returns-clause-stays g c = search rules

pub returns-then-not-copy_at-clause-bytes : goal.returns-then-not-copy_at-clause-bytes
returns-then-not-copy_at-clause-bytes g c = search rules

pub returns-then-not-copy_at-clause-inner : goal.returns-then-not-copy_at-clause-inner
returns-then-not-copy_at-clause-inner g c = search rules

pub returns-then-not-copy_at-clause-kept : goal.returns-then-not-copy_at-clause-kept
returns-then-not-copy_at-clause-kept g c = search (rules, onward_same)

pub returns-then-not-copy_at-clause-place : goal.returns-then-not-copy_at-clause-place
returns-then-not-copy_at-clause-place g c = search rules

pub returns-then-not-copy_at-clause-short : goal.returns-then-not-copy_at-clause-short
returns-then-not-copy_at-clause-short g c = search (rules, onward_same, read_onward, nowhere, slice_onward, vector_onward)

pub returns-then-not-copy_at-clause-stays : goal.returns-then-not-copy_at-clause-stays
returns-then-not-copy_at-clause-stays g c = search rules
