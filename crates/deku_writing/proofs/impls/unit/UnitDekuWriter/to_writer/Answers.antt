use Rattle.deku_meanings.proofs.Joining.{answered}
use Rattle.deku_writing.proofs.impls.unit.UnitDekuWriter.to_writer.Goals as goal

pub returns : goal.returns
returns g c = answered
