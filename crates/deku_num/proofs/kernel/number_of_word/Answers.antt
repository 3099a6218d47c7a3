use Rattle.std.proofs.Common.{arith, rules, ◌∙◌}
use Rattle.deku_num.proofs.Turned.{word_is, low_turned}
use Rattle.deku_num.proofs.kernel.number_of_word.Goals as goal

pub returns-in-Little-default : goal.returns-in-Little-default
returns-in-Little-default c = λ s l e. rw c.in-Little-default.is-0 (e ∙ word_is c.args.order s)

pub returns-in-Big-Msb0 : goal.returns-in-Big-Msb0
returns-in-Big-Msb0 c = λ s l e. rw (c.in-Big-Msb0.is-0, c.in-Big-Msb0.is-1) (c.number_of_high.ensures s l (rw c.in-Big-Msb0.is-1 at e))

pub returns-in-Big-Lsb0 : goal.returns-in-Big-Lsb0
returns-in-Big-Lsb0 c = λ s l e.
    rw (c.in-Big-Lsb0.is-0, c.in-Big-Lsb0.is-1)
    (c.turned.ensures.value ∙ low_turned s c.args.word c.div_ceil.result (omega arith) (omega arith) (rw c.in-Big-Lsb0.is-1 at e))

pub overflow_cast-word : goal.overflow_cast-word
overflow_cast-word c = search rules

pub narrow_number-requires-clause-few : goal.narrow_number-requires-clause-few
narrow_number-requires-clause-few c = search rules

pub narrow_number-requires-clause-fits : goal.narrow_number-requires-clause-fits
narrow_number-requires-clause-fits c = search rules

pub overflow_cast-result : goal.overflow_cast-result
overflow_cast-result c = search rules

pub returns-then-width-le64 : goal.returns-then-width-le64
returns-then-width-le64 c = search rules

pub number_of_high-requires-clause-wide : goal.number_of_high-requires-clause-wide
number_of_high-requires-clause-wide c = search rules

pub number_of_high-requires-clause-fits : goal.number_of_high-requires-clause-fits
number_of_high-requires-clause-fits c = search rules

pub div_ceil-requires : goal.div_ceil-requires
div_ceil-requires c = search rules

pub turned-requires : goal.turned-requires
turned-requires c = search rules
