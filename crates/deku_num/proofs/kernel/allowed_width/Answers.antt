use Rattle.std.proofs.Common.{rules}
use Rattle.deku_num.proofs.kernel.allowed_width.Goals as goal

pub returns-in_default-clause-allowed : goal.returns-in_default-clause-allowed
returns-in_default-clause-allowed c = search rules

pub returns-in_default-clause-width : goal.returns-in_default-clause-width
returns-in_default-clause-width c = search rules

pub returns-in_default-clause-too_wide : goal.returns-in_default-clause-too_wide
returns-in_default-clause-too_wide c = search rules

pub returns-in_default-clause-uneven : goal.returns-in_default-clause-uneven
returns-in_default-clause-uneven c = search rules

pub returns-then-not-is_even_where-clause-allowed : goal.returns-then-not-is_even_where-clause-allowed
returns-then-not-is_even_where-clause-allowed c = search rules

pub returns-then-not-is_even_where-clause-width : goal.returns-then-not-is_even_where-clause-width
returns-then-not-is_even_where-clause-width c = search rules

pub returns-then-not-is_even_where-clause-too_wide : goal.returns-then-not-is_even_where-clause-too_wide
returns-then-not-is_even_where-clause-too_wide c = search rules

pub returns-then-not-is_even_where-clause-uneven : goal.returns-then-not-is_even_where-clause-uneven
returns-then-not-is_even_where-clause-uneven c = search rules

pub returns-clause-allowed : goal.returns-clause-allowed
returns-clause-allowed c = search rules

pub returns-clause-width : goal.returns-clause-width
returns-clause-width c = search rules

pub returns-clause-too_wide : goal.returns-clause-too_wide
returns-clause-too_wide c = search rules

pub returns-clause-uneven : goal.returns-clause-uneven
returns-clause-uneven c = search rules
