use Rattle.deku_stream.proofs.Appends.{calls_law}
use Rattle.deku_bits.proofs.laws.calls_law.Goals as goal

pub returns : goal.returns
returns c = calls_law
