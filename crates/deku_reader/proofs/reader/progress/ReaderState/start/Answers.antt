use Rattle.std.proofs.Common.{rules}
use Rattle.deku_reader.proofs.reader.progress.ReaderState.start.Goals as goal

pub returns : goal.returns
returns c = search rules
