use Rattle.std.proofs.Common.{rules}
use Rattle.deku_probe.proofs.probe.FailAt.into_inner.Goals as goal

pub returns : goal.returns
returns g c = search rules
