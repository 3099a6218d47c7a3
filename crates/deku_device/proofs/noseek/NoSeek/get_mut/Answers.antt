use Rattle.std.proofs.Common.{rules}
use Rattle.deku_device.proofs.noseek.NoSeek.get_mut.Goals as goal

pub returns : goal.returns
returns g c = search rules
