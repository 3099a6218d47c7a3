use Rattle.deku_stream.proofs.Writing.{write_law}
use Rattle.deku_bits.proofs.laws.write_law.Goals as goal

pub returns : goal.returns
returns c = write_law
