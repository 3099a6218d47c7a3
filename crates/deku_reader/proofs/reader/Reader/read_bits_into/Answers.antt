use Rattle.std.proofs.lemmas.Result.{err_from_is_err_and}
use Rattle.deku_stream.specs.Bits.{shown}
use Rattle.deku_stream.proofs.Handing.{mapped_ok, mapped_err}
use Rattle.deku_reader.proofs.reader.Reader.read_bits_into.Goals as goal

pub returns-in_err-take_bits-clause-reads : goal.returns-in_err-take_bits-clause-reads
returns-in_err-take_bits-clause-reads g c =
    let p = err_from_is_err_and c.from_residual.result c.from_residual.ensures.1 in
    rw (p.1, p.2) (mapped_err (shown c.args.order) c.in_err-take_bits.ensures.takes)

pub returns-clause-reads : goal.returns-clause-reads
returns-clause-reads g c = rw c.show.ensures (mapped_ok (shown c.args.order) c.in_ok-take_bits.ensures.takes)
