use Rattle.std.proofs.Common.{arith, rules}
use Rattle.deku_num.proofs.Turned.{turned_fits}
use Rattle.deku_num.proofs.Narrow.{turned_narrow}
use Rattle.deku_num.proofs.kernel.narrow.turned.Goals as goal

pub returns-clause-value : goal.returns-clause-value
returns-clause-value c = turned_narrow c.args.number c.swap_bytes.result c.args.count (search rules) c.swap_bytes.ensures c.requires.few

pub returns-clause-bound : goal.returns-clause-bound
returns-clause-bound c = turned_fits 64 c.swap_bytes.result c.args.count (search rules) (omega (arith, c.requires.few))

pub overflow_mul-result : goal.overflow_mul-result
overflow_mul-result c = search rules

pub overflow_sub-result : goal.overflow_sub-result
overflow_sub-result c = search rules

pub overflow_shr-result : goal.overflow_shr-result
overflow_shr-result c = search rules
