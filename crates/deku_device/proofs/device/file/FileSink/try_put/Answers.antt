use Rattle.std.proofs.Common.{rules}
use Rattle.deku_device.proofs.device.file.FileSink.try_put.Goals as goal

pub returns-clause-gave : goal.returns-clause-gave
returns-clause-gave c = search rules

pub returns-clause-stays : goal.returns-clause-stays
returns-clause-stays c = search rules
