use Rattle.deku_stream.proofs.Appends.{append_law}
use Rattle.deku_bits.proofs.laws.append_law.Goals as goal

pub returns : goal.returns
returns c = append_law
