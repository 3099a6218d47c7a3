use Rattle.deku_stream.proofs.Taking.{skip_law}
use Rattle.deku_bits.proofs.laws.skip_law.Goals as goal

pub returns : goal.returns
returns c = skip_law
