use Rattle.std.proofs.Common.{rules}
use Rattle.deku_stream.proofs.window.Window.take.Goals as goal

pub returns-in-Msb0 : goal.returns-in-Msb0
returns-in-Msb0 c = search rules

pub returns-in-Lsb0 : goal.returns-in-Lsb0
returns-in-Lsb0 c = search rules

pub take_high-requires : goal.take_high-requires
take_high-requires c = search rules

pub take_low-requires : goal.take_low-requires
take_low-requires c = search rules
