use Rattle.std.proofs.Common.{rules}
use Rattle.deku_probe.proofs.probe.FailAtSeek.seek.Goals as goal

pub returns-in_err-call-clause-moves : goal.returns-in_err-call-clause-moves
returns-in_err-call-clause-moves g c = search rules

pub returns-in_err-call-clause-bytes : goal.returns-in_err-call-clause-bytes
returns-in_err-call-clause-bytes g c = search rules

pub returns-in_err-call-clause-counted : goal.returns-in_err-call-clause-counted
returns-in_err-call-clause-counted g c = search rules

pub returns-in_err-call-clause-fails : goal.returns-in_err-call-clause-fails
returns-in_err-call-clause-fails g c = search rules

pub returns-in_err-call-clause-failed : goal.returns-in_err-call-clause-failed
returns-in_err-call-clause-failed g c = search rules

pub returns-in_err-call-clause-still : goal.returns-in_err-call-clause-still
returns-in_err-call-clause-still g c = search rules

pub returns-in_err-call-clause-target : goal.returns-in_err-call-clause-target
returns-in_err-call-clause-target g c = search rules

pub returns-in_err-call-clause-from_end : goal.returns-in_err-call-clause-from_end
returns-in_err-call-clause-from_end g c = search rules

pub returns-in_err-call-clause-inner : goal.returns-in_err-call-clause-inner
returns-in_err-call-clause-inner g c = search rules

pub returns-clause-moves : goal.returns-clause-moves
returns-clause-moves g c = search rules

pub returns-clause-bytes : goal.returns-clause-bytes
returns-clause-bytes g c = search rules

pub returns-clause-counted : goal.returns-clause-counted
returns-clause-counted g c = search rules

pub returns-clause-fails : goal.returns-clause-fails
returns-clause-fails g c = search rules

pub returns-clause-failed : goal.returns-clause-failed
returns-clause-failed g c = search rules

pub returns-clause-still : goal.returns-clause-still
returns-clause-still g c = search rules

pub returns-clause-target : goal.returns-clause-target
returns-clause-target g c = search rules

pub returns-clause-from_end : goal.returns-clause-from_end
returns-clause-from_end g c = search rules

pub returns-clause-inner : goal.returns-clause-inner
returns-clause-inner g c = search rules
