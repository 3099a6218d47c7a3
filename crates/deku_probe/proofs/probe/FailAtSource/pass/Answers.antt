use Rattle.std.proofs.Common.{rules}
use Rattle.deku_probe.proofs.probe.FailAtSource.pass.Goals as goal

pub returns-in_err-call-clause-bytes : goal.returns-in_err-call-clause-bytes
returns-in_err-call-clause-bytes g c = search rules

pub returns-in_err-call-clause-failed : goal.returns-in_err-call-clause-failed
returns-in_err-call-clause-failed g c = search rules

pub returns-in_err-call-clause-kept : goal.returns-in_err-call-clause-kept
returns-in_err-call-clause-kept g c = search rules

pub returns-in_err-call-clause-counted : goal.returns-in_err-call-clause-counted
returns-in_err-call-clause-counted g c = search rules

pub returns-in_err-call-clause-fails : goal.returns-in_err-call-clause-fails
returns-in_err-call-clause-fails g c = search rules

pub returns-in_err-call-clause-kind : goal.returns-in_err-call-clause-kind
returns-in_err-call-clause-kind g c = search rules

pub returns-in_err-call-clause-still : goal.returns-in_err-call-clause-still
returns-in_err-call-clause-still g c = search rules

pub returns-clause-bytes : goal.returns-clause-bytes
returns-clause-bytes g c = search rules

pub returns-clause-failed : goal.returns-clause-failed
returns-clause-failed g c = search rules

pub returns-clause-kept : goal.returns-clause-kept
returns-clause-kept g c = search rules

pub returns-clause-counted : goal.returns-clause-counted
returns-clause-counted g c = search rules

pub returns-clause-fails : goal.returns-clause-fails
returns-clause-fails g c = search rules

pub returns-clause-kind : goal.returns-clause-kind
returns-clause-kind g c = search rules

pub returns-clause-still : goal.returns-clause-still
returns-clause-still g c = search rules

pub returns-in_err-call-clause-place : goal.returns-in_err-call-clause-place
returns-in_err-call-clause-place g c = search rules

pub returns-clause-place : goal.returns-clause-place
returns-clause-place g c = search rules

pub returns-in_err-call-clause-inner : goal.returns-in_err-call-clause-inner
returns-in_err-call-clause-inner g c = search rules

pub returns-clause-inner : goal.returns-clause-inner
returns-clause-inner g c = search rules
