use Rattle.std.proofs.Common.{rules}
use Rattle.deku_probe.proofs.probe.trickle.TrickleSeek.seek.Goals as goal

pub returns-clause-moves : goal.returns-clause-moves
returns-clause-moves c = search rules

pub returns-clause-bytes : goal.returns-clause-bytes
returns-clause-bytes c = search rules

pub returns-clause-target : goal.returns-clause-target
returns-clause-target c = search rules

pub returns-clause-from_end : goal.returns-clause-from_end
returns-clause-from_end c = search rules

pub returns-clause-inner : goal.returns-clause-inner
returns-clause-inner c = search rules
