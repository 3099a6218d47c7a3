use Rattle.std.proofs.Common.{rules}
use Rattle.deku_device.proofs.noseek.NoSeekRead.read_exact.Goals as goal

pub returns-in_err-read_exact-clause-bytes : goal.returns-in_err-read_exact-clause-bytes
returns-in_err-read_exact-clause-bytes g c = search rules

pub returns-in_err-read_exact-clause-counts : goal.returns-in_err-read_exact-clause-counts
returns-in_err-read_exact-clause-counts g c = search rules

pub returns-in_err-read_exact-clause-stays : goal.returns-in_err-read_exact-clause-stays
returns-in_err-read_exact-clause-stays g c = search rules

pub returns-clause-bytes : goal.returns-clause-bytes
returns-clause-bytes g c = search rules

pub returns-clause-counts : goal.returns-clause-counts
returns-clause-counts g c = search rules

pub returns-clause-stays : goal.returns-clause-stays
returns-clause-stays g c = search rules
