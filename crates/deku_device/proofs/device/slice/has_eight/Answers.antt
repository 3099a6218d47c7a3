use Rattle.std.proofs.Common.{rules}
use Rattle.deku_device.proofs.device.slice.has_eight.Goals as goal

pub returns : goal.returns
returns c = search rules
