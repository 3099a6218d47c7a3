use Rattle.std.proofs.Common.{rules}
use Rattle.deku_device.proofs.device.file.FileSource.pass.Goals as goal

pub returns-in_err-seek-clause-bytes : goal.returns-in_err-seek-clause-bytes
returns-in_err-seek-clause-bytes c = search rules

pub returns-in_err-seek-clause-failed : goal.returns-in_err-seek-clause-failed
returns-in_err-seek-clause-failed c = search rules

pub returns-in_err-seek-clause-kept : goal.returns-in_err-seek-clause-kept
returns-in_err-seek-clause-kept c = search rules

pub returns-clause-bytes : goal.returns-clause-bytes
returns-clause-bytes c = search rules

pub returns-clause-failed : goal.returns-clause-failed
returns-clause-failed c = search rules

pub returns-clause-kept : goal.returns-clause-kept
returns-clause-kept c = search rules

pub overflow_cast-n : goal.overflow_cast-n
overflow_cast-n c = search rules
