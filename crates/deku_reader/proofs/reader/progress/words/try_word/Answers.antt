use Rattle.std.proofs.Common.{◌/◌, arith}
use Rattle.deku_reader.proofs.WordsRead.{word_whole_at_hand}
use Rattle.deku_reader.proofs.reader.progress.words.try_word.Goals as goal

pub returns-then-len-eq0-clause-moved : goal.returns-then-len-eq0-clause-moved
returns-then-len-eq0-clause-moved g c =
    let known = g.R.Source.known in
    word_whole_at_hand c.args.order c.args.window.now (known c.args.source.now).remaining (known c.try_take.new.self).remaining c.args.count (c.args.count / 8) c.word_of_front.result
    c.in_ok-eight.eight (omega arith) (omega arith) (omega arith) (omega arith) (omega arith) c.in_ok-eight.ensures.bytes (c.word_of_front.ensures c.args.order)
