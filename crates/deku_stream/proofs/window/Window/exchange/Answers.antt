use Rattle.std.proofs.Common.{arith, rules}
use Rattle.std.proofs.lemmas.Grind.{common_steps}
use Rattle.deku_stream.proofs.window.Window.exchange.Goals as goal

pub returns-in-Msb0-clause-bits : goal.returns-in-Msb0-clause-bits
returns-in-Msb0-clause-bits c = search rules

pub returns-in-Msb0-clause-len : goal.returns-in-Msb0-clause-len
returns-in-Msb0-clause-len c = search rules

pub returns-in-Lsb0-clause-len : goal.returns-in-Lsb0-clause-len
returns-in-Lsb0-clause-len c = search rules

pub returns-in-Lsb0-clause-bits : goal.returns-in-Lsb0-clause-bits
returns-in-Lsb0-clause-bits c = grind (arith, common_steps)
