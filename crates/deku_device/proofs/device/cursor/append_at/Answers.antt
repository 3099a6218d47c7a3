use Rattle.std.proofs.Common.{rules, arith}
use Rattle.std.proofs.lemmas.Grind.{common_steps, elements}
use Rattle.deku_device.proofs.device.cursor.append_at.Goals as goal

pub returns-then-n-eq0-clause-fits : goal.returns-then-n-eq0-clause-fits
returns-then-n-eq0-clause-fits c = search rules

pub returns-then-n-eq0-clause-short : goal.returns-then-n-eq0-clause-short
returns-then-n-eq0-clause-short c = search rules

pub returns-then-n-eq0-clause-same : goal.returns-then-n-eq0-clause-same
returns-then-n-eq0-clause-same c = search rules

pub returns-then-n-eq0-clause-bytes : goal.returns-then-n-eq0-clause-bytes
returns-then-n-eq0-clause-bytes c = grind (arith, common_steps)

pub returns-then-n-eq0-clause-held : goal.returns-then-n-eq0-clause-held
returns-then-n-eq0-clause-held c = grind (arith, common_steps)

pub returns-then-n-eq0-clause-count : goal.returns-then-n-eq0-clause-count
returns-then-n-eq0-clause-count c = search rules

pub returns-then-all-at-clause-fits : goal.returns-then-all-at-clause-fits
returns-then-all-at-clause-fits c = search rules

pub returns-then-all-at-clause-short : goal.returns-then-all-at-clause-short
returns-then-all-at-clause-short c = grind (arith, common_steps)

pub returns-then-all-at-clause-same : goal.returns-then-all-at-clause-same
returns-then-all-at-clause-same c = search rules

pub returns-then-all-at-clause-bytes : goal.returns-then-all-at-clause-bytes
returns-then-all-at-clause-bytes c = search rules

pub returns-then-all-at-clause-held : goal.returns-then-all-at-clause-held
returns-then-all-at-clause-held c = search rules

pub returns-then-all-at-clause-count : goal.returns-then-all-at-clause-count
returns-then-all-at-clause-count c = search rules

pub returns-clause-fits : goal.returns-clause-fits
returns-clause-fits c = search rules

pub returns-clause-short : goal.returns-clause-short
returns-clause-short c = search rules

pub returns-clause-same : goal.returns-clause-same
returns-clause-same c = search rules

pub returns-clause-held : goal.returns-clause-held
returns-clause-held c = grind (arith, common_steps)

pub returns-clause-count : goal.returns-clause-count
returns-clause-count c = search rules

pub overflow_sub-all : goal.overflow_sub-all
overflow_sub-all c = search rules

pub overflow_add-at : goal.overflow_add-at
overflow_add-at c = search rules

pub slice_bounds-extend_from_slice-count : goal.slice_bounds-extend_from_slice-count
slice_bounds-extend_from_slice-count c = search rules

pub slice_bounds-extend_from_slice-start : goal.slice_bounds-extend_from_slice-start
slice_bounds-extend_from_slice-start c = search rules

pub slice_bounds-extend_from_slice-end : goal.slice_bounds-extend_from_slice-end
slice_bounds-extend_from_slice-end c = search rules

pub returns-clause-bytes : goal.returns-clause-bytes
returns-clause-bytes c = grind (arith, elements)
