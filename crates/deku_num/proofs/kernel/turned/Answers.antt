use Rattle.std.proofs.Common.{◌-◌, ◌*◌, ◌/◌, ◌^◌, ap, rules, arith}
use Rattle.deku_num.proofs.Turned.{turned_none, turned_fits}
use Rattle.deku_num.proofs.kernel.turned.Goals as goal

pub returns-then-count-eq0-clause-value : goal.returns-then-count-eq0-clause-value
returns-then-count-eq0-clause-value c = turned_none c.args.number c.swap_bytes-swapped.result c.args.count (search rules) c.swap_bytes-swapped.ensures (omega arith)

pub returns-clause-value : goal.returns-clause-value
returns-clause-value c = ap (λ x. x / 2 ^ (128 - 8 * c.args.count)) c.swap_bytes-swapped.ensures

pub returns-clause-bound : goal.returns-clause-bound
returns-clause-bound c = turned_fits 128 c.swap_bytes-swapped.result c.args.count (search rules) (omega (arith, c.requires))

pub returns-then-count-eq0-clause-bound : goal.returns-then-count-eq0-clause-bound
returns-then-count-eq0-clause-bound c = search rules

pub overflow_mul-result : goal.overflow_mul-result
overflow_mul-result c = search rules

pub overflow_sub-result : goal.overflow_sub-result
overflow_sub-result c = search rules

pub overflow_cast-result : goal.overflow_cast-result
overflow_cast-result c = search rules

pub overflow_shr-result : goal.overflow_shr-result
overflow_shr-result c = search rules
