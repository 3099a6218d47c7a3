use Rattle.std.proofs.Common.{rules}
use Rattle.deku_symmetry.proofs.record.write_record.Goals as goal

pub returns : goal.returns
returns g c = search rules
