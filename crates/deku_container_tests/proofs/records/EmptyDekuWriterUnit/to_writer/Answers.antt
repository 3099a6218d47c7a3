use Rattle.deku.proofs.Joining.{answered}
use Rattle.deku_container_tests.proofs.records.EmptyDekuWriterUnit.to_writer.Goals as goal

pub returns : goal.returns
returns g c = answered
