use Rattle.std.proofs.Common.{◌≡◌, ◌∙◌, length, arith}
use Rattle.deku_stream.specs.Outcomes.{Quiet}
use Rattle.deku_reader.proofs.Moving.{moved_loses, takes_ok, takes_err, admitted, needs_none}
use Rattle.deku_reader.proofs.reader.progress.ReaderState.take_bits.Goals as goal

pub returns-in-Ok-clause-takes : goal.returns-in-Ok-clause-takes
returns-in-Ok-clause-takes g c =
    let known = g.R.Source.known in
    let p = c.self.inside in
    let len : length c.bits_into.new.dst ≡ length c.args.dst.now = omega arith in
    let may = admitted p.window p.tally.fault p.tally.count (length c.args.dst.now) (rw (← c.self.view_is) at c.in_ok-admits.ensures) in
    let h = takes_ok c.args.order p.window (known c.args.source.now).remaining p.tally.count (length c.args.dst.now) c.bits_into.new.dst c.bits_into.new.window (known c.bits_into.new.source).remaining
    len c.self.invariant may.1 c.in-Ok.ensures.moved c.in-Ok.ensures.short c.in-Ok.ensures.none in
    rw (← c.self.view_is, may.0, c.add.ensures) (Quiet h c.bits_into.ensures.kept)

pub returns-in-Err-clause-takes : goal.returns-in-Err-clause-takes
returns-in-Err-clause-takes g c =
    let known = g.R.Source.known in
    let p = c.self.inside in
    let len : length c.bits_into.new.dst ≡ length c.args.dst.now = omega arith in
    let may = admitted p.window p.tally.fault p.tally.count (length c.args.dst.now) (rw (← c.self.view_is) at c.in_ok-admits.ensures) in
    let at_end = c.self-in-Err.view_is ∙ c.stopped.ensures in
    rw (← c.self.view_is, may.0, c.error.ensures, at_end, c.count.ensures)
    (takes_err c.args.order p.window (known c.args.source.now).remaining p.tally.count (length c.args.dst.now) (known c.args.source.now).health (known c.bits_into.new.source).health _ _
    (rw len at c.fault_of-fault.ensures) may.1 c.in-Err.ensures.ended c.in-Err.ensures.failed c.bits_into.ensures.kept)

pub returns-in-Ok-clause-fetched : goal.returns-in-Ok-clause-fetched
returns-in-Ok-clause-fetched g c =
    let known = g.R.Source.known in
    let p = c.self.inside in
    let len : length c.bits_into.new.dst ≡ length c.args.dst.now = omega arith in
    let may = admitted p.window p.tally.fault p.tally.count (length c.args.dst.now) (rw (← c.self.view_is) at c.in_ok-admits.ensures) in
    rw (← c.self.view_is, may.0)
    (moved_loses c.args.order p.window (known c.args.source.now).remaining (length c.args.dst.now) c.bits_into.new.dst c.bits_into.new.window (known c.bits_into.new.source).remaining
    len c.self.invariant c.in-Ok.ensures.moved c.in-Ok.ensures.short c.in-Ok.ensures.none)

pub returns-in-Ok-clause-still : goal.returns-in-Ok-clause-still
returns-in-Ok-clause-still g c =
    let p = c.self.inside in
    let n = length c.args.dst.now in
    let may = admitted p.window p.tally.fault p.tally.count n (rw (← c.self.view_is) at c.in_ok-admits.ensures) in
    rw (← c.self.view_is, may.0) (needs_none p.window p.tally.count n _ _ may.1 c.bits_into.ensures.inside)

pub returns-in-Err-clause-still : goal.returns-in-Err-clause-still
returns-in-Err-clause-still g c =
    let p = c.self.inside in
    let n = length c.args.dst.now in
    let may = admitted p.window p.tally.fault p.tally.count n (rw (← c.self.view_is) at c.in_ok-admits.ensures) in
    rw (← c.self.view_is, may.0) (needs_none p.window p.tally.count n _ _ may.1 c.bits_into.ensures.inside)
