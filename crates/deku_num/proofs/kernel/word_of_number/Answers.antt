use Rattle.std.proofs.Common.{arith, rules, sym, ◌%◌, ◌<◌, ◌^◌, ◌∙◌, ◌≡◌}
use Rattle.deku_num.proofs.Turned.{word_is, low_back}
use Rattle.deku_num.proofs.Narrow.{number_narrow}
use Rattle.deku_num.proofs.kernel.word_of_number.Goals as goal

pub returns-then-width-le64 : goal.returns-then-width-le64
returns-then-width-le64 c = λ s l e.
    let small : c.args.number < 2 ^ 64 = rw e (number_narrow c.args.endian c.args.order s (omega arith)) in
    let whole : c.args.number % 2 ^ 64 ≡ c.args.number = omega arith in
    c.narrow_word.ensures s l (whole ∙ e)

pub returns-in-Little-default : goal.returns-in-Little-default
returns-in-Little-default c = λ s l e. (rw c.in-Little-default.is-0 at e) ∙ sym (word_is c.args.order s)

pub returns-in-Big-Msb0 : goal.returns-in-Big-Msb0
returns-in-Big-Msb0 c = λ s l e. rw c.in-Big-Msb0.is-1 (c.word_of_high.ensures s l (rw (c.in-Big-Msb0.is-0, c.in-Big-Msb0.is-1) at e))

pub returns-in-Big-Lsb0 : goal.returns-in-Big-Lsb0
returns-in-Big-Lsb0 c = λ s l e.
    rw c.in-Big-Lsb0.is-1
    (c.turned.ensures.value ∙ low_back s c.args.number c.div_ceil.result (omega arith) (omega arith) (rw (c.in-Big-Lsb0.is-0, c.in-Big-Lsb0.is-1) at e))

pub nonzero_rem-number : goal.nonzero_rem-number
nonzero_rem-number c = search rules

pub overflow_cast-number : goal.overflow_cast-number
overflow_cast-number c = search rules

pub narrow_word-requires : goal.narrow_word-requires
narrow_word-requires c = search rules

pub overflow_cast-result : goal.overflow_cast-result
overflow_cast-result c = search rules

pub word_of_high-requires : goal.word_of_high-requires
word_of_high-requires c = search rules

pub div_ceil-requires : goal.div_ceil-requires
div_ceil-requires c = search rules

pub turned-requires : goal.turned-requires
turned-requires c = search rules
