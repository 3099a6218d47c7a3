use Rattle.std.proofs.Common.{rules}
use Rattle.deku_program.proofs.input.read_hex_text.Goals as goal

pub returns-in-Ok-clause-shown : goal.returns-in-Ok-clause-shown
returns-in-Ok-clause-shown g c = search rules

pub returns-in-Ok-clause-none : goal.returns-in-Ok-clause-none
returns-in-Ok-clause-none g c = search rules
