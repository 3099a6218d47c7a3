use Rattle.std.proofs.Common.{rules}
use Rattle.deku_probe.proofs.probe.trickle.Trickle.new.Goals as goal

pub returns-clause-bytes : goal.returns-clause-bytes
returns-clause-bytes c = search rules

pub returns-clause-place : goal.returns-clause-place
returns-clause-place c = search rules
