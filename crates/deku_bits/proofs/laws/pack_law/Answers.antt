use Rattle.deku_stream.proofs.Packing.{pack_law}
use Rattle.deku_bits.proofs.laws.pack_law.Goals as goal

pub returns : goal.returns
returns c = pack_law
