use Rattle.std.proofs.Common.{rules}
use Rattle.deku_writer.proofs.writer.WriterState.bits_written.Goals as goal

pub returns : goal.returns
returns c = search rules
