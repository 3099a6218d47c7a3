use Rattle.std.proofs.Common.{rules}
use Rattle.deku_device.proofs.device.RefMutSink.try_put.Goals as goal

pub returns-clause-gave : goal.returns-clause-gave
returns-clause-gave g c = search rules

pub returns-clause-stays : goal.returns-clause-stays
returns-clause-stays g c = search rules
