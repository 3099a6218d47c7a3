use Rattle.deku_device.proofs.Parts.{try_take_law}
use Rattle.deku_bits.proofs.laws.try_take_law.Goals as goal

pub returns : goal.returns
returns c = try_take_law
