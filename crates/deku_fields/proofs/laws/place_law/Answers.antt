use Rattle.deku_fields.proofs.Showing.{place_law}
use Rattle.deku_fields.proofs.laws.place_law.Goals as goal

pub returns : goal.returns
returns c = place_law
