use Rattle.std.proofs.Common.{arith, rules, sym, ◌∙◌}
use Rattle.deku_num.proofs.Turned.{word_is, low_back}
use Rattle.deku_num.proofs.Narrow.{one_group}
use Rattle.deku_num.proofs.kernel.narrow.narrow_word.Goals as goal

pub returns-then-width-le8 : goal.returns-then-width-le8
returns-then-width-le8 c = λ s l e. e ∙ sym (one_group c.args.endian c.args.order s (omega arith))

pub returns-in-Little-default : goal.returns-in-Little-default
returns-in-Little-default c = λ s l e. (rw c.in-Little-default.is-0 at e) ∙ sym (word_is c.args.order s)

pub returns-in-Big-Msb0 : goal.returns-in-Big-Msb0
returns-in-Big-Msb0 c = λ s l e. rw c.in-Big-Msb0.is-1 (c.word_of_high.ensures s l (rw (c.in-Big-Msb0.is-0, c.in-Big-Msb0.is-1) at e))

pub returns-in-Big-Lsb0 : goal.returns-in-Big-Lsb0
returns-in-Big-Lsb0 c = λ s l e.
    rw c.in-Big-Lsb0.is-1
    (c.turned.ensures.value ∙ low_back s c.args.number c.div_ceil.result (omega arith) (omega arith) (rw (c.in-Big-Lsb0.is-0, c.in-Big-Lsb0.is-1) at e))

pub word_of_high-requires-clause-more : goal.word_of_high-requires-clause-more
word_of_high-requires-clause-more c = search rules

pub word_of_high-requires-clause-few : goal.word_of_high-requires-clause-few
word_of_high-requires-clause-few c = search rules

pub div_ceil-requires : goal.div_ceil-requires
div_ceil-requires c = search rules

pub turned-requires-clause-some : goal.turned-requires-clause-some
turned-requires-clause-some c = search rules

pub turned-requires-clause-few : goal.turned-requires-clause-few
turned-requires-clause-few c = search rules
