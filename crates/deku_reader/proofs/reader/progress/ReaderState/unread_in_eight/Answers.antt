use Rattle.std.proofs.Common.{rules}
use Rattle.deku_reader.proofs.reader.progress.ReaderState.unread_in_eight.Goals as goal

pub returns-in-None : goal.returns-in-None
returns-in-None c = search rules

pub returns-in-Some : goal.returns-in-Some
returns-in-Some c = search rules
