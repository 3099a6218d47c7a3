use Rattle.deku_reading.proofs.Ahead.{none_appended}
use Rattle.deku_reading.proofs.Early.{promptly_none}
use Rattle.deku_reading.proofs.traits.DekuReader.try_read_onto.Goals as goal

pub returns-clause-reads : goal.returns-clause-reads
returns-clause-reads g c = none_appended

pub returns-clause-early : goal.returns-clause-early
returns-clause-early g c = λ p. promptly_none
