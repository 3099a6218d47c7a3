use Rattle.std.proofs.Common.{rules}
use Rattle.deku_probe.proofs.probe.FailAt.new.Goals as goal

pub returns-clause-inner : goal.returns-clause-inner
returns-clause-inner g c = search rules

pub returns-clause-left : goal.returns-clause-left
returns-clause-left g c = search rules
