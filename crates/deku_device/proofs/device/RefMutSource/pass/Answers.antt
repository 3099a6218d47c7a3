use Rattle.std.proofs.Common.{rules}
use Rattle.deku_device.proofs.device.RefMutSource.pass.Goals as goal

pub returns-clause-bytes : goal.returns-clause-bytes
returns-clause-bytes g c = search rules

pub returns-clause-failed : goal.returns-clause-failed
returns-clause-failed g c = search rules

pub returns-clause-kept : goal.returns-clause-kept
returns-clause-kept g c = search rules
