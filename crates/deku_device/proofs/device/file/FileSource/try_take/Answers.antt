use Rattle.std.proofs.Common.{rules}
use Rattle.deku_device.proofs.device.file.FileSource.try_take.Goals as goal

pub returns-clause-bytes : goal.returns-clause-bytes
returns-clause-bytes c = search rules

pub returns-clause-ahead : goal.returns-clause-ahead
returns-clause-ahead c = search rules

pub returns-clause-none : goal.returns-clause-none
returns-clause-none c = search rules

pub returns-clause-kept : goal.returns-clause-kept
returns-clause-kept c = search rules
