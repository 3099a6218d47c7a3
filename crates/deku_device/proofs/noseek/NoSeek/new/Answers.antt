use Rattle.std.proofs.Common.{rules}
use Rattle.deku_device.proofs.noseek.NoSeek.new.Goals as goal

pub returns-clause-inner : goal.returns-clause-inner
returns-clause-inner g c = search rules

pub returns-clause-position : goal.returns-clause-position
returns-clause-position g c = search rules
