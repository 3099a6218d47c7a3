use Rattle.std.proofs.lemmas.Grind.{common_steps}
use Rattle.std.proofs.Common.{arith, rules}
use Rattle.deku_num.proofs.Narrow.{low_narrow}
use Rattle.deku_num.proofs.kernel.low_bits.Goals as goal

pub returns-then-n-lt64 : goal.returns-then-n-lt64
returns-then-n-lt64 c = low_narrow c.args.sum c.args.n c.if-n-lt64.true

pub nonzero_rem-low : goal.nonzero_rem-low
nonzero_rem-low c = search rules

pub overflow_cast-low : goal.overflow_cast-low
overflow_cast-low c = search rules

pub overflow_shl-result : goal.overflow_shl-result
overflow_shl-result c = search rules

pub nonzero_rem-result : goal.nonzero_rem-result
nonzero_rem-result c = search rules

pub overflow_cast-result : goal.overflow_cast-result
overflow_cast-result c = search rules

pub overflow_shl-result-else-n-eq128 : goal.overflow_shl-result-else-n-eq128
overflow_shl-result-else-n-eq128 c = search rules

pub nonzero_rem-result-else-n-eq128 : goal.nonzero_rem-result-else-n-eq128
nonzero_rem-result-else-n-eq128 c = grind (arith, common_steps)

pub returns-then-n-eq128 : goal.returns-then-n-eq128
returns-then-n-eq128 c = search rules

pub returns-else-n-eq128 : goal.returns-else-n-eq128
returns-else-n-eq128 c = grind (arith, common_steps)
