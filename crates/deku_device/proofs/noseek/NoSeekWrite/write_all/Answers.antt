use Rattle.std.proofs.Common.{rules}
use Rattle.deku_device.proofs.noseek.NoSeekWrite.write_all.Goals as goal

pub returns-in_err-write_all-clause-bytes : goal.returns-in_err-write_all-clause-bytes
returns-in_err-write_all-clause-bytes g c = search rules

pub returns-in_err-write_all-clause-counts : goal.returns-in_err-write_all-clause-counts
returns-in_err-write_all-clause-counts g c = search rules

pub returns-in_err-write_all-clause-stays : goal.returns-in_err-write_all-clause-stays
returns-in_err-write_all-clause-stays g c = search rules

pub returns-clause-bytes : goal.returns-clause-bytes
returns-clause-bytes g c = search rules

pub returns-clause-counts : goal.returns-clause-counts
returns-clause-counts g c = search rules

pub returns-clause-stays : goal.returns-clause-stays
returns-clause-stays g c = search rules
