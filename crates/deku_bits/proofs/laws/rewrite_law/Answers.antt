use Rattle.deku_stream.proofs.Rewriting.{rewrite_law}
use Rattle.deku_bits.proofs.laws.rewrite_law.Goals as goal

pub returns : goal.returns
returns c = rewrite_law
