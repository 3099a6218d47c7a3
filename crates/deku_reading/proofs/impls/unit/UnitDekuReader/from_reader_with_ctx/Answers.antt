use Rattle.deku_meanings.proofs.Joining.{answered}
use Rattle.deku_reading.proofs.Early.{promptly_none}
use Rattle.deku_reading.proofs.impls.unit.UnitDekuReader.from_reader_with_ctx.Goals as goal

pub returns-clause-reads : goal.returns-clause-reads
returns-clause-reads g c = answered

pub returns-clause-early : goal.returns-clause-early
returns-clause-early g c = λ _. promptly_none
