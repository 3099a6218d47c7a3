use Rattle.std.proofs.Common.{arith, refl}
use Rattle.deku_reader.proofs.WordsRead.{gives_none, word_inside, word_at_hand, word_whole_at_hand}
use Rattle.deku_reader.proofs.reader.progress.words.try_across.Goals as goal

pub returns-then-count-len-clause-none : goal.returns-then-count-len-clause-none
returns-then-count-len-clause-none g c = λ z. (gives_none c.args.order c.args.count c.take.result c.args.window.now c.take.new.self c.take.ensures z, refl)

pub returns-then-count-len-clause-moved : goal.returns-then-count-len-clause-moved
returns-then-count-len-clause-moved g c =
    word_inside c.args.order c.args.window.now c.take.new.self (g.R.Source.known c.args.source.now).remaining c.args.count c.take.result (omega arith) c.take.ensures

pub returns-clause-short : goal.returns-clause-short
returns-clause-short g c = λ p.
    let known = g.R.Source.known in
    (word_at_hand c.args.order c.args.window.now c.take_across.new.self (known c.args.source.now).remaining (known c.try_take.new.self).remaining c.args.count c.div_ceil.result c.take_across.result
    c.in_ok-eight.eight (omega arith) (omega arith) (omega arith) (omega arith) (omega arith) c.in_ok-eight.ensures.bytes c.take_across.ensures).1

pub returns-clause-moved : goal.returns-clause-moved
returns-clause-moved g c =
    let known = g.R.Source.known in
    (word_at_hand c.args.order c.args.window.now c.take_across.new.self (known c.args.source.now).remaining (known c.try_take.new.self).remaining c.args.count c.div_ceil.result c.take_across.result
    c.in_ok-eight.eight (omega arith) (omega arith) (omega arith) (omega arith) (omega arith) c.in_ok-eight.ensures.bytes c.take_across.ensures).0

pub returns-then-len-eq0-clause-moved : goal.returns-then-len-eq0-clause-moved
returns-then-len-eq0-clause-moved g c =
    let known = g.R.Source.known in
    word_whole_at_hand c.args.order c.args.window.now (known c.args.source.now).remaining (known c.try_take.new.self).remaining c.args.count c.div_ceil.result c.word_of_front.result
    c.in_ok-eight.eight (omega arith) (omega arith) (omega arith) (omega arith) (omega arith) c.in_ok-eight.ensures.bytes (c.word_of_front.ensures c.args.order)
