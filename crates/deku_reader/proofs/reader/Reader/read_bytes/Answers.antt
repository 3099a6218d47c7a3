use Rattle.std.proofs.Common.{◌≡◌, ◌++◌, length, take, drop, arith}
use Rattle.std.proofs.lemmas.List.{take_at, length-take}
use Rattle.std.proofs.lemmas.Result.{err_from_is_err_and}
use Rattle.deku_reader.proofs.reader.Reader.read_bytes.Goals as goal

pub returns-in_err-take_bytes-clause-front : goal.returns-in_err-take_bytes-clause-front
returns-in_err-take_bytes-clause-front g c =
    let amt = c.args.amt in
    let p = err_from_is_err_and c.from_residual.result c.from_residual.ensures.1 in
    let width : length (take amt c.args.buf.now) ≡ amt = simp length-take (omega arith) in
    rw (p.1, p.2) (rw width at c.in_err-take_bytes.ensures.reads)

pub returns-clause-front : goal.returns-clause-front
returns-clause-front g c =
    let amt = c.args.amt in
    let dst = c.take_bytes.new.dst in
    let width : length (take amt c.args.buf.now) ≡ amt = simp length-take (omega arith) in
    let same : length dst ≡ amt = omega (arith, width) in
    let front : take amt (dst ++ drop amt c.args.buf.now) ≡ dst = take_at dst (drop amt c.args.buf.now) amt same in
    rw front (rw width at c.in_ok-take_bytes.ensures.reads)

pub returns-clause-fetched : goal.returns-clause-fetched
returns-clause-fetched g c =
    let amt = c.args.amt in
    let width : length (take amt c.args.buf.now) ≡ amt = simp length-take (omega arith) in
    rw width at c.in_ok-take_bytes.ensures.fetched
