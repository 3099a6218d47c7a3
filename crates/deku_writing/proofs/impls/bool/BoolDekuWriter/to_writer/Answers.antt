use Rattle.std.proofs.Common.{rules}
use Rattle.deku_writing.proofs.impls.bool.BoolDekuWriter.to_writer.Goals as goal

pub returns : goal.returns
returns g c = search rules
