use Rattle.std.proofs.Common.{arith, rules}
use Rattle.std.proofs.lemmas.Grind.{common_steps}
use Rattle.deku_device.proofs.device.slice.lay_first.Goals as goal

pub returns : goal.returns
returns c = grind (arith, common_steps)

pub slice_bounds-first-end : goal.slice_bounds-first-end
slice_bounds-first-end c = search rules

pub overflow_add-place : goal.overflow_add-place
overflow_add-place c = search rules

pub slice_bounds-copy_from_slice-count : goal.slice_bounds-copy_from_slice-count
slice_bounds-copy_from_slice-count c = search rules

pub slice_bounds-copy_from_slice-start : goal.slice_bounds-copy_from_slice-start
slice_bounds-copy_from_slice-start c = search rules

pub slice_bounds-copy_from_slice-end : goal.slice_bounds-copy_from_slice-end
slice_bounds-copy_from_slice-end c = search rules
