use Rattle.deku_reader.proofs.Skips.{peek_skip_law}
use Rattle.deku_bits.proofs.laws.peek_skip_law.Goals as goal

pub returns : goal.returns
returns c = peek_skip_law
