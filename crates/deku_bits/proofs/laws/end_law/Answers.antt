use Rattle.deku_reader.proofs.ReaderLaws.{end_law}
use Rattle.deku_bits.proofs.laws.end_law.Goals as goal

pub returns : goal.returns
returns c = end_law
