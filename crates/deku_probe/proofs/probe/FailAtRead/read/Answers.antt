use Rattle.std.proofs.Common.{rules}
use Rattle.deku_probe.proofs.probe.FailAtRead.read.Goals as goal

pub returns-in_err-call-clause-bound : goal.returns-in_err-call-clause-bound
returns-in_err-call-clause-bound g c = search rules

pub returns-in_err-call-clause-bytes : goal.returns-in_err-call-clause-bytes
returns-in_err-call-clause-bytes g c = search rules

pub returns-in_err-call-clause-one : goal.returns-in_err-call-clause-one
returns-in_err-call-clause-one g c = search rules

pub returns-in_err-call-clause-counted : goal.returns-in_err-call-clause-counted
returns-in_err-call-clause-counted g c = search rules

pub returns-in_err-call-clause-fails : goal.returns-in_err-call-clause-fails
returns-in_err-call-clause-fails g c = search rules

pub returns-in_err-call-clause-failed : goal.returns-in_err-call-clause-failed
returns-in_err-call-clause-failed g c = search rules

pub returns-in_err-call-clause-still : goal.returns-in_err-call-clause-still
returns-in_err-call-clause-still g c = search rules

pub returns-clause-bound : goal.returns-clause-bound
returns-clause-bound g c = search rules

pub returns-clause-bytes : goal.returns-clause-bytes
returns-clause-bytes g c = search rules

pub returns-clause-one : goal.returns-clause-one
returns-clause-one g c = search rules

pub returns-clause-counted : goal.returns-clause-counted
returns-clause-counted g c = search rules

pub returns-clause-fails : goal.returns-clause-fails
returns-clause-fails g c = search rules

pub returns-clause-failed : goal.returns-clause-failed
returns-clause-failed g c = search rules

pub returns-clause-still : goal.returns-clause-still
returns-clause-still g c = search rules
