use Rattle.std.proofs.Common.{rules}
use Rattle.deku_num.proofs.kernel.narrow_power.Goals as goal

pub returns : goal.returns
returns c = search rules

pub overflow_shl-power : goal.overflow_shl-power
overflow_shl-power c = search rules

pub overflow_cast-result : goal.overflow_cast-result
overflow_cast-result c = search rules
