use Rattle.deku_reader.proofs.ReaderLaws.{bytes_law}
use Rattle.deku_bits.proofs.laws.bytes_law.Goals as goal

pub returns : goal.returns
returns c = bytes_law
