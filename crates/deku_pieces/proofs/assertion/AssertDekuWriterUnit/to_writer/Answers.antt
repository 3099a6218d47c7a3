use Rattle.std.proofs.Common.{rules}
use Rattle.deku_pieces.proofs.assertion.AssertDekuWriterUnit.to_writer.Goals as goal

pub returns-then-not-passes : goal.returns-then-not-passes
returns-then-not-passes g c = search rules

pub returns : goal.returns
returns g c = search rules
