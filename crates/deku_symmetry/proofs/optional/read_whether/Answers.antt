use Rattle.deku.proofs.Joining.{answered}
use Rattle.deku_symmetry.proofs.optional.read_whether.Goals as goal

pub returns-else-there-clause-reads : goal.returns-else-there-clause-reads
returns-else-there-clause-reads g c = rw c.if-there.false answered
