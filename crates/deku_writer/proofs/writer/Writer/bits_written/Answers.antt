use Rattle.std.proofs.Common.{rules}
use Rattle.deku_writer.proofs.writer.Writer.bits_written.Goals as goal

pub returns : goal.returns
returns g c = search rules
