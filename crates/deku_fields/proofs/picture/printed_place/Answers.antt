use Rattle.std.proofs.Common.{rules}
use Rattle.deku_fields.proofs.picture.printed_place.Goals as goal

pub returns-in-Msb0 : goal.returns-in-Msb0
returns-in-Msb0 c = search rules

pub returns-in-Lsb0 : goal.returns-in-Lsb0
returns-in-Lsb0 c = search rules
