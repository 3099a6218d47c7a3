use Rattle.deku_stream.proofs.Appends.{count_law}
use Rattle.deku_bits.proofs.laws.count_law.Goals as goal

pub returns : goal.returns
returns c = count_law
