use Rattle.deku_num.proofs.Values.{field_law}
use Rattle.deku_num.proofs.laws.field_law.Goals as goal

pub returns : goal.returns
returns c = field_law
