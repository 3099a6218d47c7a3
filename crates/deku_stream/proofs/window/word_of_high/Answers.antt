use Rattle.std.proofs.Common.{rules}
use Rattle.deku_stream.proofs.HighWords.{word_high, word_high_short}
use Rattle.deku_stream.proofs.window.word_of_high.Goals as goal

pub returns-then-count-lt8 : goal.returns-then-count-lt8
returns-then-count-lt8 c = word_high_short c.args.count c.args.number c.if-count-lt8.true c.requires.below

pub overflow_add-result : goal.overflow_add-result
overflow_add-result c = record { fits = (word_high c.args.count c.args.number c.swap_bytes.result c.requires.few c.requires.below (search rules) c.swap_bytes.ensures).1 }

pub returns : goal.returns
returns c = (word_high c.args.count c.args.number c.swap_bytes.result c.requires.few c.requires.below (search rules) c.swap_bytes.ensures).0

pub overflow_sub-whole : goal.overflow_sub-whole
overflow_sub-whole c = search rules

pub overflow_shr-number : goal.overflow_shr-number
overflow_shr-number c = search rules

pub overflow_sub-turned : goal.overflow_sub-turned
overflow_sub-turned c = search rules

pub overflow_shr-turned : goal.overflow_shr-turned
overflow_shr-turned c = search rules

pub overflow_shl-last : goal.overflow_shl-last
overflow_shl-last c = search rules

pub nonzero_rem-last : goal.nonzero_rem-last
nonzero_rem-last c = search rules

pub overflow_shl-last-2 : goal.overflow_shl-last-2
overflow_shl-last-2 c = search rules
