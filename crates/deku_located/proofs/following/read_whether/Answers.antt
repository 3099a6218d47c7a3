use Rattle.deku.proofs.Joining.{answered}
use Rattle.deku_located.proofs.following.read_whether.Goals as goal

pub returns-else-there : goal.returns-else-there
returns-else-there g c = rw c.if-there.false answered
