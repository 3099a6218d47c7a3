use Rattle.std.proofs.lemmas.Grind.{elements}
use Rattle.std.proofs.Common.{arith, rules}
use Rattle.deku_writer.proofs.writer.way.Way.place.Goals as goal

pub returns-in-Forward-clause-within : goal.returns-in-Forward-clause-within
returns-in-Forward-clause-within c = search rules

pub returns-in-Forward-clause-bit : goal.returns-in-Forward-clause-bit
returns-in-Forward-clause-bit c = search rules

pub returns-in-Backward-clause-within : goal.returns-in-Backward-clause-within
returns-in-Backward-clause-within c = search rules

pub returns-in-TurnedBytes-clause-within : goal.returns-in-TurnedBytes-clause-within
returns-in-TurnedBytes-clause-within c = search rules

pub returns-in-BytesBackward-clause-within : goal.returns-in-BytesBackward-clause-within
returns-in-BytesBackward-clause-within c = search rules

pub overflow_sub-result : goal.overflow_sub-result
overflow_sub-result c = search rules

pub overflow_sub-result-in-Backward : goal.overflow_sub-result-in-Backward
overflow_sub-result-in-Backward c = search rules

pub overflow_sub-n : goal.overflow_sub-n
overflow_sub-n c = search rules

pub overflow_sub-n-in-BytesBackward : goal.overflow_sub-n-in-BytesBackward
overflow_sub-n-in-BytesBackward c = search rules

pub returns-in-Backward-clause-bit : goal.returns-in-Backward-clause-bit
returns-in-Backward-clause-bit c = grind (arith, elements)
