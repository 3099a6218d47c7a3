use Rattle.std.proofs.Common.{rules}
use Rattle.deku_device.proofs.noseek.NoSeekSource.pass.Goals as goal

pub returns-clause-none : goal.returns-clause-none
returns-clause-none g c = search rules

pub returns-clause-refused : goal.returns-clause-refused
returns-clause-refused g c = search rules

pub returns-clause-stays : goal.returns-clause-stays
returns-clause-stays g c = search rules

pub returns-in_err-seek-clause-none : goal.returns-in_err-seek-clause-none
returns-in_err-seek-clause-none g c = search rules

pub returns-in_err-seek-clause-refused : goal.returns-in_err-seek-clause-refused
returns-in_err-seek-clause-refused g c = search rules

pub returns-in_err-seek-clause-stays : goal.returns-in_err-seek-clause-stays
returns-in_err-seek-clause-stays g c = search rules
