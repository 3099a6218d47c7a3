use Rattle.std.proofs.Common.{rules}
use Rattle.deku_device.proofs.device.RefMutSink.seek_to.Goals as goal

pub returns-clause-all : goal.returns-clause-all
returns-clause-all g c = search rules

pub returns-clause-moves : goal.returns-clause-moves
returns-clause-moves g c = search rules

pub returns-clause-refused : goal.returns-clause-refused
returns-clause-refused g c = search rules

pub returns-clause-sought : goal.returns-clause-sought
returns-clause-sought g c = search rules

pub returns-clause-stands : goal.returns-clause-stands
returns-clause-stands g c = search rules
