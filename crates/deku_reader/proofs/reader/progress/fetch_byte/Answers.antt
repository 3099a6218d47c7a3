use Rattle.std.proofs.Common.{arith, rules}
use Rattle.std.proofs.lemmas.Grind.{common_steps}
use Rattle.deku_reader.proofs.reader.progress.fetch_byte.Goals as goal

pub returns-in_err-fetch-clause-bytes : goal.returns-in_err-fetch-clause-bytes
returns-in_err-fetch-clause-bytes g c = search rules

pub returns-in_err-fetch-clause-short : goal.returns-in_err-fetch-clause-short
returns-in_err-fetch-clause-short g c = search rules

pub returns-in_err-fetch-clause-ended : goal.returns-in_err-fetch-clause-ended
returns-in_err-fetch-clause-ended g c = search rules

pub returns-in_err-fetch-clause-failed : goal.returns-in_err-fetch-clause-failed
returns-in_err-fetch-clause-failed g c = search rules

pub returns-in_err-fetch-clause-kept : goal.returns-in_err-fetch-clause-kept
returns-in_err-fetch-clause-kept g c = search rules

pub returns-clause-short : goal.returns-clause-short
returns-clause-short g c = search rules

pub returns-clause-ended : goal.returns-clause-ended
returns-clause-ended g c = search rules

pub returns-clause-failed : goal.returns-clause-failed
returns-clause-failed g c = search rules

pub returns-clause-kept : goal.returns-clause-kept
returns-clause-kept g c = search rules

pub returns-clause-bytes : goal.returns-clause-bytes
returns-clause-bytes g c = grind (arith, common_steps)
