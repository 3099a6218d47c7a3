use Rattle.std.proofs.Common.{[], refl}
use Rattle.deku.proofs.laws.unit_size_law.Goals as goal

pub returns : goal.returns
returns c = record { pieces = []; wide = refl; written = λ b s r u m. m }
