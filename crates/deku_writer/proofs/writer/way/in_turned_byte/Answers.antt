use Rattle.std.proofs.Common.{rules}
use Rattle.deku_writer.proofs.writer.way.in_turned_byte.Goals as goal

pub returns : goal.returns
returns c = search rules

pub overflow_mul-result : goal.overflow_mul-result
overflow_mul-result c = search rules

pub overflow_sub-result : goal.overflow_sub-result
overflow_sub-result c = search rules

pub overflow_add-result : goal.overflow_add-result
overflow_add-result c = search rules
