use Rattle.std.proofs.Common.{arith, rules}
use Rattle.std.proofs.lemmas.Grind.{common_steps, elements}
use Rattle.deku_device.proofs.device.cursor.copy_at.Goals as goal

pub returns-then-is_empty-clause-fits : goal.returns-then-is_empty-clause-fits
returns-then-is_empty-clause-fits c = search rules

pub returns-then-is_empty-clause-short : goal.returns-then-is_empty-clause-short
returns-then-is_empty-clause-short c = search rules

pub returns-then-all-at-clause-fits : goal.returns-then-all-at-clause-fits
returns-then-all-at-clause-fits c = search rules

pub returns-then-all-at-clause-bytes : goal.returns-then-all-at-clause-bytes
returns-then-all-at-clause-bytes c = search rules

pub returns-clause-fits : goal.returns-clause-fits
returns-clause-fits c = search rules

pub returns-clause-short : goal.returns-clause-short
returns-clause-short c = search rules

pub returns-then-is_empty-clause-bytes : goal.returns-then-is_empty-clause-bytes
returns-then-is_empty-clause-bytes c = grind (arith, common_steps)

pub returns-then-all-at-clause-short : goal.returns-then-all-at-clause-short
returns-then-all-at-clause-short c = grind (arith, common_steps)

pub overflow_sub-all : goal.overflow_sub-all
overflow_sub-all c = search rules

pub overflow_add-at : goal.overflow_add-at
overflow_add-at c = search rules

pub slice_bounds-copy_from_slice-count : goal.slice_bounds-copy_from_slice-count
slice_bounds-copy_from_slice-count c = search rules

pub slice_bounds-copy_from_slice-start : goal.slice_bounds-copy_from_slice-start
slice_bounds-copy_from_slice-start c = search rules

pub slice_bounds-copy_from_slice-end : goal.slice_bounds-copy_from_slice-end
slice_bounds-copy_from_slice-end c = search rules

pub returns-clause-bytes : goal.returns-clause-bytes
returns-clause-bytes c = grind (arith, elements)
