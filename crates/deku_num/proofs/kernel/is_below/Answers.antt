use Rattle.std.proofs.Common.{arith, rules}
use Rattle.std.proofs.lemmas.Grind.{common_steps}
use Rattle.deku_num.proofs.kernel.is_below.Goals as goal

pub returns-then-n-eq128 : goal.returns-then-n-eq128
returns-then-n-eq128 c = search rules

pub returns-else-n-eq128 : goal.returns-else-n-eq128
returns-else-n-eq128 c = grind (arith, common_steps)

pub returns-then-n-lt64 : goal.returns-then-n-lt64
returns-then-n-lt64 c = search rules

pub narrow_power-requires : goal.narrow_power-requires
narrow_power-requires c = search rules

pub overflow_shl-result : goal.overflow_shl-result
overflow_shl-result c = search rules
