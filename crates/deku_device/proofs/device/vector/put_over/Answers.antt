use Rattle.std.proofs.Common.{arith, rules}
use Rattle.std.proofs.lemmas.Grind.{common_steps}
use Rattle.deku_device.proofs.Wholes.{onward_same, read_onward, nowhere, slice_onward, vector_onward}
use Rattle.deku_device.proofs.device.vector.put_over.Goals as goal

pub returns-in-Err-clause-fits : goal.returns-in-Err-clause-fits
returns-in-Err-clause-fits c = search rules

pub returns-in-Err-clause-holds : goal.returns-in-Err-clause-holds
returns-in-Err-clause-holds c = grind (arith, common_steps)

pub returns-in-Err-clause-written : goal.returns-in-Err-clause-written
returns-in-Err-clause-written c = search rules

pub returns-in-Ok-clause-fits : goal.returns-in-Ok-clause-fits
returns-in-Ok-clause-fits c = search (rules, onward_same, read_onward, nowhere, slice_onward, vector_onward)

pub returns-in-Ok-clause-holds : goal.returns-in-Ok-clause-holds
returns-in-Ok-clause-holds c = search rules

pub returns-in-Ok-clause-written : goal.returns-in-Ok-clause-written
returns-in-Ok-clause-written c = grind (arith, common_steps)

pub returns-in_err-resize-clause-fits : goal.returns-in_err-resize-clause-fits
returns-in_err-resize-clause-fits c = search (rules, onward_same, read_onward, nowhere, slice_onward, vector_onward)

pub returns-in_err-resize-clause-holds : goal.returns-in_err-resize-clause-holds
returns-in_err-resize-clause-holds c = search (rules, onward_same, read_onward, nowhere, slice_onward, vector_onward)

pub returns-in_err-resize-clause-written : goal.returns-in_err-resize-clause-written
returns-in_err-resize-clause-written c = search (rules, onward_same, read_onward, nowhere, slice_onward, vector_onward)

pub overflow_sub-len : goal.overflow_sub-len
overflow_sub-len c = search rules

pub slice_bounds-extend_from_slice-count : goal.slice_bounds-extend_from_slice-count
slice_bounds-extend_from_slice-count c = search rules

pub slice_bounds-extend_from_slice-start : goal.slice_bounds-extend_from_slice-start
slice_bounds-extend_from_slice-start c = search rules

pub slice_bounds-extend_from_slice-end : goal.slice_bounds-extend_from_slice-end
slice_bounds-extend_from_slice-end c = search rules
