use Rattle.std.proofs.Common.{rules}
use Rattle.deku_probe.proofs.probe.trickle.TrickleSource.pass.Goals as goal

pub returns-clause-bytes : goal.returns-clause-bytes
returns-clause-bytes c = search rules

pub returns-clause-failed : goal.returns-clause-failed
returns-clause-failed c = search rules

pub returns-clause-kept : goal.returns-clause-kept
returns-clause-kept c = search rules

pub returns-clause-ok : goal.returns-clause-ok
returns-clause-ok c = search rules

pub returns-clause-place : goal.returns-clause-place
returns-clause-place c = search rules

pub returns-clause-inner : goal.returns-clause-inner
returns-clause-inner c = search rules
