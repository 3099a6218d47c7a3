use Rattle.deku_stream.proofs.Taking.{peek_law}
use Rattle.deku_bits.proofs.laws.peek_law.Goals as goal

pub returns : goal.returns
returns c = peek_law
