use Rattle.std.proofs.Common.{rules}
use Rattle.deku_fields.proofs.list.plain_width.Goals as goal

pub returns-in-Whole-clause-wide : goal.returns-in-Whole-clause-wide
returns-in-Whole-clause-wide c = search rules

pub returns-in-Whole-clause-within : goal.returns-in-Whole-clause-within
returns-in-Whole-clause-within c = search rules

pub returns-in-Bits-clause-wide : goal.returns-in-Bits-clause-wide
returns-in-Bits-clause-wide c = search rules

pub returns-in-Bits-clause-within : goal.returns-in-Bits-clause-within
returns-in-Bits-clause-within c = search rules

pub returns-in_default-clause-wide : goal.returns-in_default-clause-wide
returns-in_default-clause-wide c = search rules

pub returns-in_default-clause-within : goal.returns-in_default-clause-within
returns-in_default-clause-within c = search rules

pub returns-in_default-2-clause-wide : goal.returns-in_default-2-clause-wide
returns-in_default-2-clause-wide c = search rules

pub returns-in_default-2-clause-within : goal.returns-in_default-2-clause-within
returns-in_default-2-clause-within c = search rules
