use Rattle.deku_bits.specs.Outcomes.{Quiet}
use Rattle.deku_bits.proofs.Handing.{meant}
use Rattle.deku_reading.proofs.Cutting.{short_at, whole_cut}
use Rattle.deku_reading.proofs.Early.{took_promptly}
use Rattle.deku_reading.proofs.items.try_items.Goals as goal

pub returns-in-Some-from_word-clause-reads : goal.returns-in-Some-from_word-clause-reads
returns-in-Some-from_word-clause-reads g c =
    let taken = c.in-Some-try_read_number.ensures in
    let m = meant taken.takes in
    let short = short_at (g.R.Source.known c.args.reader.now.source).remaining c.args.reader.now.state taken.held in
    Quiet (whole_cut c.match-from_word.order c.in-Some-try_read_number.word c.in_ok-bits.bits c.in-Some-from_word.all c.in-Some-from_word.items taken.below c.in-Some-from_word.ensures c.if-all-bits.true _ _ short m.0) m.1

pub returns-in-Some-from_word-clause-early : goal.returns-in-Some-from_word-clause-early
returns-in-Some-from_word-clause-early g c = λ _.
    let taken = c.in-Some-try_read_number.ensures in
    took_promptly c.match-from_word.order _ _ _ _ _ _ taken.takes taken.fetched taken.early

pub returns-in_default-from_word-clause-reads : goal.returns-in_default-from_word-clause-reads
returns-in_default-from_word-clause-reads g c =
    let taken = c.in-Some-try_read_number.ensures in
    let m = meant taken.takes in
    let short = short_at (g.R.Source.known c.args.reader.now.source).remaining c.args.reader.now.state taken.held in
    Quiet (c.each_of.ensures _ _ short m.0) m.1

pub returns-in_default-from_word-clause-early : goal.returns-in_default-from_word-clause-early
returns-in_default-from_word-clause-early g c = λ _.
    let taken = c.in-Some-try_read_number.ensures in
    took_promptly c.match-from_word.order _ _ _ _ _ _ taken.takes taken.fetched taken.early
