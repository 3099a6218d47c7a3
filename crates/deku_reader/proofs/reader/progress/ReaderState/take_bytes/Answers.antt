use Rattle.std.proofs.Common.{◌≡◌, ◌∙◌, ◌*◌, length, arith}
use Rattle.std.proofs.lemmas.Result.{err_from_is_err_and}
use Rattle.deku_stream.specs.Bits.{bytes_of, shown}
use Rattle.deku_reader.specs.ReaderCalls.{Transfers}
use Rattle.deku_stream.specs.Streams.{flow}
use Rattle.deku_stream.proofs.Cuts.{length-flow}
use Rattle.deku_stream.proofs.Handing.{mapped_err, turned_away}
use Rattle.deku_reader.proofs.Moving.{moved_loses, admitted, reader_admits, needs_none}
use Rattle.deku_reader.proofs.BytesRead.{bytes_ok, bytes_err}
use Rattle.deku_reader.proofs.reader.progress.ReaderState.take_bytes.Goals as goal

pub returns-in_err-admits_bytes-clause-reads : goal.returns-in_err-admits_bytes-clause-reads
returns-in_err-admits_bytes-clause-reads g c =
    let known = g.R.Source.known c.args.source.now in
    let o = c.args.order in
    let bits = 8 * length c.args.dst.now in
    let p = err_from_is_err_and c.from_residual.result c.from_residual.ensures.1 in
    let away = reader_admits known.remaining c.args.self.now bits _ c.in_err-admits_bytes.ensures.answer in
    rw (p.1, p.2) (mapped_err bytes_of (mapped_err (shown o) (turned_away (Transfers o bits) bits _ _ known.health away)))

pub returns-in-Ok-clause-reads : goal.returns-in-Ok-clause-reads
returns-in-Ok-clause-reads g c =
    let known = g.R.Source.known in
    let p = c.self.inside in
    let n = length c.args.dst.now in
    let len : length c.bytes_into.new.dst ≡ length c.args.dst.now = omega arith in
    let may = admitted p.window p.tally.fault p.tally.count (8 * n) (rw (← c.self.view_is) at c.in_ok-admits_bytes.ensures.answer) in
    rw (← c.self.view_is, may.0, c.add.ensures)
    (bytes_ok c.args.order p.window (known c.args.source.now).remaining p.tally.count n c.bytes_into.new.dst c.bytes_into.new.window (known c.bytes_into.new.source).remaining _ _
    len c.self.invariant may.1 c.in-Ok.ensures.moved c.in-Ok.ensures.short c.in-Ok.ensures.none c.in-Ok.ensures.bytes c.bytes_into.ensures.kept)

pub returns-in-Err-clause-reads : goal.returns-in-Err-clause-reads
returns-in-Err-clause-reads g c =
    let known = g.R.Source.known in
    let p = c.self.inside in
    let n = length c.args.dst.now in
    let may = admitted p.window p.tally.fault p.tally.count (8 * n) (rw (← c.self.view_is) at c.in_ok-admits_bytes.ensures.answer) in
    let at_end = c.self-in-Err.view_is ∙ c.stopped.ensures in
    rw (← c.self.view_is, may.0, c.error.ensures, at_end, c.count.ensures)
    (bytes_err c.args.order p.window (known c.args.source.now).remaining p.tally.count n (known c.args.source.now).health (known c.bytes_into.new.source).health _ _
    c.fault_of_kind-fault.ensures may.1 c.in-Err.ensures.ended c.in-Err.ensures.failed c.bytes_into.ensures.kept)

pub returns-in-Ok-clause-fetched : goal.returns-in-Ok-clause-fetched
returns-in-Ok-clause-fetched g c =
    let known = g.R.Source.known in
    let p = c.self.inside in
    let n = length c.args.dst.now in
    let bytes = c.bytes_into.new.dst in
    let wide : length (flow c.args.order bytes) ≡ 8 * n = omega (arith, length-flow c.args.order bytes) in
    let may = admitted p.window p.tally.fault p.tally.count (8 * n) (rw (← c.self.view_is) at c.in_ok-admits_bytes.ensures.answer) in
    rw (← c.self.view_is, may.0)
    (moved_loses c.args.order p.window (known c.args.source.now).remaining (8 * n) (flow c.args.order bytes) c.bytes_into.new.window (known c.bytes_into.new.source).remaining
    wide c.self.invariant c.in-Ok.ensures.moved (λ k. c.in-Ok.ensures.short (omega (arith, k, wide))) (λ z. c.in-Ok.ensures.none (omega (arith, z, wide))))

pub returns-in-Ok-clause-still : goal.returns-in-Ok-clause-still
returns-in-Ok-clause-still g c =
    let p = c.self.inside in
    let n = 8 * length c.args.dst.now in
    let may = admitted p.window p.tally.fault p.tally.count n (rw (← c.self.view_is) at c.in_ok-admits_bytes.ensures.answer) in
    rw (← c.self.view_is, may.0) (needs_none p.window p.tally.count n _ _ may.1 c.bytes_into.ensures.inside)

pub returns-in-Err-clause-still : goal.returns-in-Err-clause-still
returns-in-Err-clause-still g c =
    let p = c.self.inside in
    let n = 8 * length c.args.dst.now in
    let may = admitted p.window p.tally.fault p.tally.count n (rw (← c.self.view_is) at c.in_ok-admits_bytes.ensures.answer) in
    rw (← c.self.view_is, may.0) (needs_none p.window p.tally.count n _ _ may.1 c.bytes_into.ensures.inside)
