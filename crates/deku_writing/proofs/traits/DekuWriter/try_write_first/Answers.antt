use Rattle.deku_meanings.proofs.Joining.{answered}
use Rattle.deku_writing.proofs.traits.DekuWriter.try_write_first.Goals as goal

pub returns-clause-writes : goal.returns-clause-writes
returns-clause-writes g c = answered
