use Rattle.std.proofs.Common.{◌∙◌}
use Rattle.std.proofs.lemmas.Result.{err_from_is_err_and}
use Rattle.deku_stream.specs.Bits.{word_of}
use Rattle.deku_reader.specs.ReaderCalls.{Transfers}
use Rattle.deku_stream.proofs.Handing.{mapped_err, turned_away}
use Rattle.deku_reader.proofs.Moving.{admitted, reader_admits, takes_err, needs_none}
use Rattle.deku_reader.proofs.WordsRead.{word_ok, word_loses}
use Rattle.deku_reader.proofs.reader.progress.ReaderState.take_short_word.Goals as goal

pub returns-in_err-admits-clause-reads : goal.returns-in_err-admits-clause-reads
returns-in_err-admits-clause-reads g c =
    let known = g.R.Source.known c.args.source.now in
    let o = c.args.order in
    let p = err_from_is_err_and c.from_residual.result c.from_residual.ensures.1 in
    let away = reader_admits known.remaining c.args.self.now c.args.amt _ c.in_err-admits.ensures in
    rw (p.1, p.2) (mapped_err (word_of o) (turned_away (Transfers o c.args.amt) c.args.amt _ _ known.health away))

pub returns-in-Ok-clause-reads : goal.returns-in-Ok-clause-reads
returns-in-Ok-clause-reads g c =
    let known = g.R.Source.known in
    let p = c.self.inside in
    let may = admitted p.window p.tally.fault p.tally.count c.args.amt (rw (← c.self.view_is) at c.in_ok-admits.ensures) in
    rw (← c.self.view_is, may.0, c.add.ensures)
    (word_ok c.args.order p.window (known c.args.source.now).remaining p.tally.count c.args.amt c.in-Ok.word c.short_word_from.new.window (known c.short_word_from.new.source).remaining _ _
    c.self.invariant may.1 c.in-Ok.ensures.moved c.in-Ok.ensures.short c.in-Ok.ensures.none c.short_word_from.ensures.kept)

pub returns-in-Ok-clause-fetched : goal.returns-in-Ok-clause-fetched
returns-in-Ok-clause-fetched g c =
    let known = g.R.Source.known in
    let p = c.self.inside in
    let may = admitted p.window p.tally.fault p.tally.count c.args.amt (rw (← c.self.view_is) at c.in_ok-admits.ensures) in
    rw (← c.self.view_is, may.0)
    (word_loses c.args.order p.window (known c.args.source.now).remaining c.args.amt c.in-Ok.word c.short_word_from.new.window (known c.short_word_from.new.source).remaining
    c.self.invariant c.in-Ok.ensures.moved c.in-Ok.ensures.short c.in-Ok.ensures.none)

pub returns-in-Err-clause-reads : goal.returns-in-Err-clause-reads
returns-in-Err-clause-reads g c =
    let known = g.R.Source.known in
    let p = c.self.inside in
    let may = admitted p.window p.tally.fault p.tally.count c.args.amt (rw (← c.self.view_is) at c.in_ok-admits.ensures) in
    let at_end = c.self-in-Err.view_is ∙ c.stopped.ensures in
    rw (← c.self.view_is, may.0, c.error.ensures, at_end, c.count.ensures)
    (mapped_err (word_of c.args.order) (takes_err c.args.order p.window (known c.args.source.now).remaining p.tally.count c.args.amt (known c.args.source.now).health (known c.short_word_from.new.source).health _ _
    c.fault_of_kind-fault.ensures may.1 c.in-Err.ensures.ended c.in-Err.ensures.failed c.short_word_from.ensures.kept))

pub returns-in-Ok-clause-still : goal.returns-in-Ok-clause-still
returns-in-Ok-clause-still g c =
    let p = c.self.inside in
    let n = c.args.amt in
    let may = admitted p.window p.tally.fault p.tally.count n (rw (← c.self.view_is) at c.in_ok-admits.ensures) in
    rw (← c.self.view_is, may.0) (needs_none p.window p.tally.count n _ _ may.1 c.short_word_from.ensures.inside)

pub returns-in-Err-clause-still : goal.returns-in-Err-clause-still
returns-in-Err-clause-still g c =
    let p = c.self.inside in
    let n = c.args.amt in
    let may = admitted p.window p.tally.fault p.tally.count n (rw (← c.self.view_is) at c.in_ok-admits.ensures) in
    rw (← c.self.view_is, may.0) (needs_none p.window p.tally.count n _ _ may.1 c.short_word_from.ensures.inside)
