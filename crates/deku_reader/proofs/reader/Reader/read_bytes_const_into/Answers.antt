use Rattle.std.proofs.Common.{◌≡◌, length, arith}
use Rattle.deku_reader.proofs.reader.Reader.read_bytes_const_into.Goals as goal

pub returns-clause-reads : goal.returns-clause-reads
returns-clause-reads g c =
    let len : length c.args.buf.now ≡ g.row.N = omega arith in
    rw (← len) c.take_bytes.ensures.reads

pub returns-clause-fetched : goal.returns-clause-fetched
returns-clause-fetched g c =
    let len : length c.args.buf.now ≡ g.row.N = omega arith in
    rw (← len) c.take_bytes.ensures.fetched

pub returns-clause-early : goal.returns-clause-early
returns-clause-early g c = c.take_bytes.ensures.early

pub returns-clause-stopped : goal.returns-clause-stopped
returns-clause-stopped g c = c.take_bytes.ensures.stopped
