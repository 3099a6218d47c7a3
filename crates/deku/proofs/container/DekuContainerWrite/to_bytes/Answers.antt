use Rattle.std.proofs.Common.{rules}
use Rattle.deku.proofs.container.DekuContainerWrite.to_bytes.Goals as goal

pub returns : goal.returns
returns g c = search rules
