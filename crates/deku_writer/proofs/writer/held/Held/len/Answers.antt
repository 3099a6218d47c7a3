use Rattle.std.proofs.Common.{rules}
use Rattle.deku_writer.proofs.writer.held.Held.len.Goals as goal

pub returns-clause-most : goal.returns-clause-most
returns-clause-most c = search rules
