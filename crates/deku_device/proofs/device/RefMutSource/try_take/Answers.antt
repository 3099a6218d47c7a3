use Rattle.std.proofs.Common.{rules}
use Rattle.deku_device.proofs.device.RefMutSource.try_take.Goals as goal

pub returns-clause-ahead : goal.returns-clause-ahead
returns-clause-ahead g c = search rules

pub returns-clause-bytes : goal.returns-clause-bytes
returns-clause-bytes g c = search rules

pub returns-clause-kept : goal.returns-clause-kept
returns-clause-kept g c = search rules

pub returns-clause-none : goal.returns-clause-none
returns-clause-none g c = search rules
