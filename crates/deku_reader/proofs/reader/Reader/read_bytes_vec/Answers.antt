use Rattle.std.proofs.Common.{◌*◌}
use Rattle.std.proofs.lemmas.Result.{err_from_is_err_and}
use Rattle.deku_stream.specs.Bits.{bytes_of, shown}
use Rattle.deku_stream.specs.Outcomes.{Reserving}
use Rattle.deku_reader.specs.ReaderCalls.{Transfers}
use Rattle.deku_stream.proofs.Handing.{mapped_err, turned_away, no_memory}
use Rattle.deku_reader.proofs.Moving.{reader_admits}
use Rattle.deku_reader.proofs.BytesRead.{bytes_found}
use Rattle.deku_reader.proofs.reader.Reader.read_bytes_vec.Goals as goal

pub returns-in_err-admits_bytes-clause-reads : goal.returns-in_err-admits_bytes-clause-reads
returns-in_err-admits_bytes-clause-reads g c =
    let known = g.R.Source.known c.args.self.now.source in
    let o = c.args.order in
    let bits = 8 * c.args.amt in
    let p = err_from_is_err_and c.from_residual.result c.from_residual.ensures.1 in
    let away = reader_admits known.remaining c.args.self.now.state bits _ c.in_err-admits_bytes.ensures in
    rw (p.1, p.2) (mapped_err bytes_of (mapped_err (shown o) (turned_away (Reserving (Transfers o bits)) bits _ _ known.health away)))

pub returns-in-Err-clause-reads : goal.returns-in-Err-clause-reads
returns-in-Err-clause-reads g c =
    let known = g.R.Source.known c.args.self.now.source in
    let o = c.args.order in
    let bits = 8 * c.args.amt in
    let may = reader_admits known.remaining c.args.self.now.state bits _ c.in_ok-admits_bytes.ensures in
    mapped_err bytes_of (mapped_err (shown o) (no_memory (Transfers o bits) bits _ known.health may))

pub returns-in_err-take_bytes_onto-in-Ok-clause-reads : goal.returns-in_err-take_bytes_onto-in-Ok-clause-reads
returns-in_err-take_bytes_onto-in-Ok-clause-reads g c =
    let p = err_from_is_err_and c.from_residual-in_err-take_bytes_onto-in-Ok.result c.from_residual-in_err-take_bytes_onto-in-Ok.ensures.1 in
    rw (p.1, p.2) (bytes_found c.args.order c.args.amt c.in_err-take_bytes_onto-in-Ok.ensures.reads)

pub returns-in_ok-take_bytes_onto-in-Ok-clause-reads : goal.returns-in_ok-take_bytes_onto-in-Ok-clause-reads
returns-in_ok-take_bytes_onto-in-Ok-clause-reads g c = bytes_found c.args.order c.args.amt c.in_ok-take_bytes_onto-in-Ok.ensures.reads
