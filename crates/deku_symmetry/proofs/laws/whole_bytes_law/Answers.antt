use Rattle.deku_pieces.proofs.WholeBytes.{whole_bytes_law}
use Rattle.deku_symmetry.proofs.laws.whole_bytes_law.Goals as goal

pub returns : goal.returns
returns c = whole_bytes_law
