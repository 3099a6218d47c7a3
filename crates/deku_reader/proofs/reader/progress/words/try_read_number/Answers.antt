use Rattle.std.proofs.Common.{arith, refl}
use Rattle.deku_stream.specs.declared.ctx.Order.TheVariants.{Msb0, Lsb0}
use Rattle.deku_reader.proofs.WordsRead.{gives_below, gives_none, number_inside, number_short}
use Rattle.deku_reader.proofs.reader.progress.words.try_read_number.Goals as goal

pub returns-then-count-len-clause-moved : goal.returns-then-count-len-clause-moved
returns-then-count-len-clause-moved g c = number_inside c.args.order c.args.window.now c.take.new.self (g.R.Source.known c.args.source.now).remaining c.args.count c.take.result c.take.ensures

pub returns-then-count-len-clause-below : goal.returns-then-count-len-clause-below
returns-then-count-len-clause-below g c = gives_below c.args.order c.args.count c.take.result c.args.window.now c.take.new.self c.take.ensures

pub returns-then-count-len-clause-none : goal.returns-then-count-len-clause-none
returns-then-count-len-clause-none g c = λ z. (gives_none c.args.order c.args.count c.take.result c.args.window.now c.take.new.self c.take.ensures z, refl)

pub returns-in-Msb0-clause-short : goal.returns-in-Msb0-clause-short
returns-in-Msb0-clause-short g c = λ p.
    number_short Msb0 c.args.window.now c.take_high_across.new.self c.args.count c.take_high_across.result c.in_ok-eight.eight (omega arith) (omega arith) (omega arith) (omega arith) c.take_high_across.ensures.cut

pub returns-in-Lsb0-clause-short : goal.returns-in-Lsb0-clause-short
returns-in-Lsb0-clause-short g c = λ p.
    number_short Lsb0 c.args.window.now c.take_low_across.new.self c.args.count c.take_low_across.result c.in_ok-eight.eight (omega arith) (omega arith) (omega arith) (omega arith) c.take_low_across.ensures.cut
