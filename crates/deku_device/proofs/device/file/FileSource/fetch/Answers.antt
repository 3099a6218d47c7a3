use Rattle.std.proofs.Common.{rules}
use Rattle.deku_device.proofs.device.file.FileSource.fetch.Goals as goal

pub returns-clause-bytes : goal.returns-clause-bytes
returns-clause-bytes c = search rules

pub returns-clause-short : goal.returns-clause-short
returns-clause-short c = search rules

pub returns-clause-ended : goal.returns-clause-ended
returns-clause-ended c = search rules

pub returns-clause-failed : goal.returns-clause-failed
returns-clause-failed c = search rules

pub returns-clause-kept : goal.returns-clause-kept
returns-clause-kept c = search rules
