use Rattle.std.proofs.Common.{arith, rules}
use Rattle.std.proofs.lemmas.Grind.{common_steps}
use Rattle.deku_probe.proofs.probe.fetch_byte.Goals as goal

pub returns-in_err-call-clause-bytes : goal.returns-in_err-call-clause-bytes
returns-in_err-call-clause-bytes g c = search rules

pub returns-in_err-call-clause-short : goal.returns-in_err-call-clause-short
returns-in_err-call-clause-short g c = search rules

pub returns-in_err-call-clause-ended : goal.returns-in_err-call-clause-ended
returns-in_err-call-clause-ended g c = search rules

pub returns-in_err-call-clause-failed : goal.returns-in_err-call-clause-failed
returns-in_err-call-clause-failed g c = search rules

pub returns-in_err-call-clause-kept : goal.returns-in_err-call-clause-kept
returns-in_err-call-clause-kept g c = search rules

pub returns-in_err-call-clause-counted : goal.returns-in_err-call-clause-counted
returns-in_err-call-clause-counted g c = search rules

pub returns-in_err-call-clause-fails : goal.returns-in_err-call-clause-fails
returns-in_err-call-clause-fails g c = search rules

pub returns-in_err-call-clause-kind : goal.returns-in_err-call-clause-kind
returns-in_err-call-clause-kind g c = search rules

pub returns-in_err-call-clause-still : goal.returns-in_err-call-clause-still
returns-in_err-call-clause-still g c = search rules

pub returns-in_err-fetch-clause-bytes : goal.returns-in_err-fetch-clause-bytes
returns-in_err-fetch-clause-bytes g c = search rules

pub returns-in_err-fetch-clause-short : goal.returns-in_err-fetch-clause-short
returns-in_err-fetch-clause-short g c = search rules

pub returns-in_err-fetch-clause-ended : goal.returns-in_err-fetch-clause-ended
returns-in_err-fetch-clause-ended g c = search rules

pub returns-in_err-fetch-clause-failed : goal.returns-in_err-fetch-clause-failed
returns-in_err-fetch-clause-failed g c = search rules

pub returns-in_err-fetch-clause-kept : goal.returns-in_err-fetch-clause-kept
returns-in_err-fetch-clause-kept g c = search rules

pub returns-in_err-fetch-clause-counted : goal.returns-in_err-fetch-clause-counted
returns-in_err-fetch-clause-counted g c = search rules

pub returns-in_err-fetch-clause-fails : goal.returns-in_err-fetch-clause-fails
returns-in_err-fetch-clause-fails g c = search rules

pub returns-in_err-fetch-clause-kind : goal.returns-in_err-fetch-clause-kind
returns-in_err-fetch-clause-kind g c = search rules

pub returns-in_err-fetch-clause-still : goal.returns-in_err-fetch-clause-still
returns-in_err-fetch-clause-still g c = search rules

pub returns-clause-short : goal.returns-clause-short
returns-clause-short g c = search rules

pub returns-clause-ended : goal.returns-clause-ended
returns-clause-ended g c = search rules

pub returns-clause-failed : goal.returns-clause-failed
returns-clause-failed g c = search rules

pub returns-clause-kept : goal.returns-clause-kept
returns-clause-kept g c = search rules

pub returns-clause-counted : goal.returns-clause-counted
returns-clause-counted g c = search rules

pub returns-clause-fails : goal.returns-clause-fails
returns-clause-fails g c = search rules

pub returns-clause-kind : goal.returns-clause-kind
returns-clause-kind g c = search rules

pub returns-clause-still : goal.returns-clause-still
returns-clause-still g c = search rules

pub returns-clause-bytes : goal.returns-clause-bytes
returns-clause-bytes g c = grind (arith, common_steps)
