use Rattle.std.proofs.Common.{arith, rules}
use Rattle.std.proofs.lemmas.Grind.{common_steps}
use Rattle.deku_device.proofs.device.slice.CursorRefMutSliceU8Sink.give.Goals as goal

pub returns-then-n-bytes-clause-ok : goal.returns-then-n-bytes-clause-ok
returns-then-n-bytes-clause-ok c = search rules

pub returns-then-n-bytes-clause-place : goal.returns-then-n-bytes-clause-place
returns-then-n-bytes-clause-place c = search rules

pub returns-clause-err : goal.returns-clause-err
returns-clause-err c = search rules

pub returns-then-n-bytes-clause-err : goal.returns-then-n-bytes-clause-err
returns-then-n-bytes-clause-err c = grind (arith, common_steps)

pub returns-then-n-bytes-clause-written : goal.returns-then-n-bytes-clause-written
returns-then-n-bytes-clause-written c = grind (arith, common_steps)

pub returns-clause-ok : goal.returns-clause-ok
returns-clause-ok c = grind (arith, common_steps)

pub returns-clause-written : goal.returns-clause-written
returns-clause-written c = grind (arith, common_steps)

pub returns-clause-place : goal.returns-clause-place
returns-clause-place c = grind (arith, common_steps)

pub slice_bounds-overwrite-end : goal.slice_bounds-overwrite-end
slice_bounds-overwrite-end c = search rules

pub overflow_add-place : goal.overflow_add-place
overflow_add-place c = search rules
