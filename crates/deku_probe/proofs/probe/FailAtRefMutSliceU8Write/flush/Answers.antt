use Rattle.std.proofs.Common.{rules}
use Rattle.deku_probe.proofs.probe.FailAtRefMutSliceU8Write.flush.Goals as goal

pub returns-clause-bytes : goal.returns-clause-bytes
returns-clause-bytes c = search rules

pub returns-clause-ok : goal.returns-clause-ok
returns-clause-ok c = search rules

pub returns-clause-stays : goal.returns-clause-stays
returns-clause-stays c = search rules
