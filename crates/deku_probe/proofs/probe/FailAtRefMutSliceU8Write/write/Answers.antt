use Rattle.std.proofs.Common.{rules}
use Rattle.deku_probe.proofs.probe.FailAtRefMutSliceU8Write.write.Goals as goal

pub returns-in_err-call-clause-bound : goal.returns-in_err-call-clause-bound
returns-in_err-call-clause-bound c = search rules

pub returns-in_err-call-clause-bytes : goal.returns-in_err-call-clause-bytes
returns-in_err-call-clause-bytes c = search rules

pub returns-in_err-call-clause-one : goal.returns-in_err-call-clause-one
returns-in_err-call-clause-one c = search rules

pub returns-in_err-call-clause-counted : goal.returns-in_err-call-clause-counted
returns-in_err-call-clause-counted c = search rules

pub returns-in_err-call-clause-fails : goal.returns-in_err-call-clause-fails
returns-in_err-call-clause-fails c = search rules

pub returns-in_err-call-clause-failed : goal.returns-in_err-call-clause-failed
returns-in_err-call-clause-failed c = search rules

pub returns-in_err-call-clause-still : goal.returns-in_err-call-clause-still
returns-in_err-call-clause-still c = search rules

pub returns-clause-bound : goal.returns-clause-bound
returns-clause-bound c = search rules

pub returns-clause-bytes : goal.returns-clause-bytes
returns-clause-bytes c = search rules

pub returns-clause-one : goal.returns-clause-one
returns-clause-one c = search rules

pub returns-clause-counted : goal.returns-clause-counted
returns-clause-counted c = search rules

pub returns-clause-fails : goal.returns-clause-fails
returns-clause-fails c = search rules

pub returns-clause-failed : goal.returns-clause-failed
returns-clause-failed c = search rules

pub returns-clause-still : goal.returns-clause-still
returns-clause-still c = search rules
