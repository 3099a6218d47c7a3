use Rattle.deku_reader.proofs.Moving.{admitted, needs_none}
use Rattle.deku_reader.proofs.WordsRead.{number_ok, number_loses}
use Rattle.deku_reader.proofs.reader.progress.ReaderState.try_read_number.Goals as goal

pub returns-clause-takes : goal.returns-clause-takes
returns-clause-takes g c =
    let known = g.R.Source.known in
    let p = c.self.inside in
    let may = admitted p.window p.tally.fault p.tally.count c.args.amt (rw (← c.self.view_is) at c.in-Ok.ensures) in
    rw (← c.self.view_is, may.0, c.add.ensures)
    (number_ok c.args.order p.window (known c.args.source.now).remaining p.tally.count c.args.amt c.in_ok-number.number c.try_read_number.new.window (known c.try_read_number.new.source).remaining _ _
    c.self.invariant may.1 c.in_ok-number.ensures.moved c.in_ok-number.ensures.short c.in_ok-number.ensures.none c.try_read_number.ensures.kept)

pub returns-clause-fetched : goal.returns-clause-fetched
returns-clause-fetched g c =
    let known = g.R.Source.known in
    let p = c.self.inside in
    let may = admitted p.window p.tally.fault p.tally.count c.args.amt (rw (← c.self.view_is) at c.in-Ok.ensures) in
    rw (← c.self.view_is, may.0)
    (number_loses c.args.order p.window (known c.args.source.now).remaining c.args.amt c.in_ok-number.number c.try_read_number.new.window (known c.try_read_number.new.source).remaining
    c.self.invariant c.in_ok-number.ensures.moved c.in_ok-number.ensures.short c.in_ok-number.ensures.none)

pub returns-clause-still : goal.returns-clause-still
returns-clause-still g c =
    let p = c.self.inside in
    let n = c.args.amt in
    let may = admitted p.window p.tally.fault p.tally.count n (rw (← c.self.view_is) at c.in-Ok.ensures) in
    rw (← c.self.view_is, may.0) (needs_none p.window p.tally.count n _ _ may.1 c.try_read_number.ensures.still)

pub returns-clause-held : goal.returns-clause-held
returns-clause-held g c =
    let p = c.self.inside in
    let may = admitted p.window p.tally.fault p.tally.count c.args.amt (rw (← c.self.view_is) at c.in-Ok.ensures) in
    rw (← c.self.view_is, may.0) c.self.invariant
