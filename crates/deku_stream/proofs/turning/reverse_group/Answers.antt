use Rattle.std.proofs.Common.{arith, rules}
use Rattle.std.proofs.lemmas.Grind.{common_steps}
use Rattle.deku_stream.proofs.turning.reverse_group.Goals as goal

pub returns : goal.returns
returns c = grind (arith, common_steps)

pub overflow_add-at : goal.overflow_add-at
overflow_add-at c = search rules

pub slice_bounds-reverse-count : goal.slice_bounds-reverse-count
slice_bounds-reverse-count c = search rules

pub slice_bounds-reverse-start : goal.slice_bounds-reverse-start
slice_bounds-reverse-start c = search rules

pub slice_bounds-reverse-end : goal.slice_bounds-reverse-end
slice_bounds-reverse-end c = search rules
