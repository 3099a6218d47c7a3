use Rattle.std.proofs.lemmas.Grind.{common_steps}
use Rattle.std.proofs.Common.{rules, arith}
use Rattle.deku_fields.proofs.program.number_lines.Goals as goal

pub loop-number-init : goal.loop-number-init
loop-number-init c = search rules

pub offset_bounds-numbers-number-index : goal.offset_bounds-numbers-number-index
offset_bounds-numbers-number-index c = search rules

pub returns-clause-memory : goal.returns-clause-memory
returns-clause-memory c = search rules

pub loop-number-preserved : goal.loop-number-preserved
loop-number-preserved c = grind (arith, common_steps)
