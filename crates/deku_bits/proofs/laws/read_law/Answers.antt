use Rattle.deku_stream.proofs.Reading.{read_law}
use Rattle.deku_bits.proofs.laws.read_law.Goals as goal

pub returns : goal.returns
returns c = read_law
