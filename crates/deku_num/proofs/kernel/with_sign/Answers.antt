use Rattle.std.proofs.Common.{arith, rules}
use Rattle.std.proofs.lemmas.Grind.{common_steps}
use Rattle.deku_num.proofs.kernel.with_sign.Goals as goal

pub returns-then-sum-half-clause-low : goal.returns-then-sum-half-clause-low
returns-then-sum-half-clause-low c = search rules

pub returns-then-sum-half-clause-high : goal.returns-then-sum-half-clause-high
returns-then-sum-half-clause-high c = search rules

pub returns-else-sum-half-clause-low : goal.returns-else-sum-half-clause-low
returns-else-sum-half-clause-low c = search rules

pub returns-else-sum-half-clause-high : goal.returns-else-sum-half-clause-high
returns-else-sum-half-clause-high c = grind (arith, common_steps)

pub overflow_cast-result : goal.overflow_cast-result
overflow_cast-result c = search rules

pub overflow_sub-below : goal.overflow_sub-below
overflow_sub-below c = search rules

pub overflow_sub-below-else-sum-half-2 : goal.overflow_sub-below-else-sum-half-2
overflow_sub-below-else-sum-half-2 c = search rules

pub overflow_cast-below : goal.overflow_cast-below
overflow_cast-below c = search rules

pub overflow_sub-result : goal.overflow_sub-result
overflow_sub-result c = search rules

pub overflow_sub-result-else-sum-half : goal.overflow_sub-result-else-sum-half
overflow_sub-result-else-sum-half c = search rules
