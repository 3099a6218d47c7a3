use Rattle.deku_stream.proofs.Packing.{join_law}
use Rattle.deku_bits.proofs.laws.join_law.Goals as goal

pub returns : goal.returns
returns c = join_law
