use Rattle.deku_reader.proofs.ReaderLaws.{skip_read_law}
use Rattle.deku_bits.proofs.laws.skip_read_law.Goals as goal

pub returns : goal.returns
returns c = skip_read_law
