use Rattle.std.proofs.Common.{rules}
use Rattle.deku_symmetry.proofs.fields.LeDekuWriterUnit.to_writer.Goals as goal

pub returns : goal.returns
returns g c = search rules
