use Rattle.deku.proofs.Joining.{answered}
use Rattle.deku.proofs.Early.{promptly_none}
use Rattle.deku_container_tests.proofs.records.EmptyDekuReaderUnit.from_reader_with_ctx.Goals as goal

pub returns-clause-reads : goal.returns-clause-reads
returns-clause-reads g c = answered

pub returns-clause-early : goal.returns-clause-early
returns-clause-early g c = λ _. promptly_none
