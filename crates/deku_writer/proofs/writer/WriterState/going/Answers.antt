use Rattle.std.proofs.Common.{rules}
use Rattle.deku_writer.proofs.writer.WriterState.going.Goals as goal

pub returns : goal.returns
returns c = search rules
