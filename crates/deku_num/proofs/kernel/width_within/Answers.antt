use Rattle.std.proofs.Common.{rules}
use Rattle.deku_num.proofs.kernel.width_within.Goals as goal

pub returns-in-Bytes-3-clause-some : goal.returns-in-Bytes-3-clause-some
returns-in-Bytes-3-clause-some c = search rules

pub returns-in-Bytes-3-clause-none : goal.returns-in-Bytes-3-clause-none
returns-in-Bytes-3-clause-none c = search rules

pub returns-then-bits-number_type-clause-some : goal.returns-then-bits-number_type-clause-some
returns-then-bits-number_type-clause-some c = search rules

pub returns-then-bits-number_type-clause-none : goal.returns-then-bits-number_type-clause-none
returns-then-bits-number_type-clause-none c = search rules

pub returns-else-bits-number_type-clause-some : goal.returns-else-bits-number_type-clause-some
returns-else-bits-number_type-clause-some c = search rules

pub returns-else-bits-number_type-clause-none : goal.returns-else-bits-number_type-clause-none
returns-else-bits-number_type-clause-none c = search rules

pub overflow_mul-bits : goal.overflow_mul-bits
overflow_mul-bits c = search rules
