use Rattle.std.proofs.lemmas.Grind.{common_steps}
use Rattle.std.proofs.Common.{rules, arith}
use Rattle.deku_program.proofs.input.without_newline.Goals as goal

pub overflow_sub-text : goal.overflow_sub-text
overflow_sub-text c = search rules

pub bounds-text-text : goal.bounds-text-text
bounds-text-text c = search rules

pub slice_bounds-inner-count : goal.slice_bounds-inner-count
slice_bounds-inner-count c = search rules

pub slice_bounds-inner-length : goal.slice_bounds-inner-length
slice_bounds-inner-length c = search rules

pub returns-in-10 : goal.returns-in-10
returns-in-10 c = grind (arith, common_steps)
