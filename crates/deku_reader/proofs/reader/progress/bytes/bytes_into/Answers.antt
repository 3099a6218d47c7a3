use Rattle.std.proofs.Common.{◌*◌, length, arith}
use Rattle.deku_reader.proofs.reader.progress.bytes.bytes_into.Goals as goal

pub returns-in-Err-clause-ended : goal.returns-in-Err-clause-ended
returns-in-Err-clause-ended g c = rw c.kind.ensures (λ eof. c.in-Err.ensures.ended eof (8 * length c.args.dst.now) (omega arith))
