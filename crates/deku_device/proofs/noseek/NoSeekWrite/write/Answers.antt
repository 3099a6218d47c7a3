use Rattle.std.proofs.Common.{rules}
use Rattle.deku_device.proofs.noseek.NoSeekWrite.write.Goals as goal

pub returns-in_err-n-clause-bound : goal.returns-in_err-n-clause-bound
returns-in_err-n-clause-bound g c = search rules

pub returns-in_err-n-clause-bytes : goal.returns-in_err-n-clause-bytes
returns-in_err-n-clause-bytes g c = search rules

pub returns-in_err-n-clause-counts : goal.returns-in_err-n-clause-counts
returns-in_err-n-clause-counts g c = search rules

pub returns-in_err-n-clause-stays : goal.returns-in_err-n-clause-stays
returns-in_err-n-clause-stays g c = search rules

pub returns-clause-bound : goal.returns-clause-bound
returns-clause-bound g c = search rules

pub returns-clause-bytes : goal.returns-clause-bytes
returns-clause-bytes g c = search rules

pub returns-clause-counts : goal.returns-clause-counts
returns-clause-counts g c = search rules

pub returns-clause-stays : goal.returns-clause-stays
returns-clause-stays g c = search rules
