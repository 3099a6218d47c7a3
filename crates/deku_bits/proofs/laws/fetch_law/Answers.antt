use Rattle.deku_reader.proofs.Fetched.{fetch_law}
use Rattle.deku_bits.proofs.laws.fetch_law.Goals as goal

pub returns : goal.returns
returns c = fetch_law
