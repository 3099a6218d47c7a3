use Rattle.std.proofs.Common.{rules}
use Rattle.deku_pieces.proofs.counted.CountedDekuWriterUnit.to_writer.Goals as goal

pub returns : goal.returns
returns g c = search rules
