use Rattle.deku_stream.proofs.Lengths.{length_law}
use Rattle.deku_bits.proofs.laws.length_law.Goals as goal

pub returns : goal.returns
returns c = length_law
