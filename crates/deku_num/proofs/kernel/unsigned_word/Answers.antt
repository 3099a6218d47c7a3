-- The word is that of the number that is written.
use Rattle.std.proofs.Common.{rules}
use Rattle.deku_num.proofs.Fitted.{unsigned_word_for, unsigned_unfit}
use Rattle.deku_num.proofs.kernel.unsigned_word.Goals as goal

pub returns-then-not-is_within-clause-none : goal.returns-then-not-is_within-clause-none
returns-then-not-is_within-clause-none c = λ _.
    unsigned_unfit c.args.number_type c.args.layout c.args.value c.requires.unsigned (λ h. search rules)

pub returns-clause-word : goal.returns-clause-word
returns-clause-word c =
    let h = rw c.requires.wide at (c.is_within.ensures.0 (search rules)) in
    let is = rw c.requires.wide at c.word_of_number.ensures in
    unsigned_word_for c.args.number_type c.args.layout c.args.value c.word_of_number.result c.requires.unsigned h is

pub is_within-requires : goal.is_within-requires
is_within-requires c = search rules

pub returns-then-not-is_within-clause-word : goal.returns-then-not-is_within-clause-word
returns-then-not-is_within-clause-word c = search rules

pub word_of_number-requires : goal.word_of_number-requires
word_of_number-requires c = search rules

pub returns-clause-none : goal.returns-clause-none
returns-clause-none c = search rules
