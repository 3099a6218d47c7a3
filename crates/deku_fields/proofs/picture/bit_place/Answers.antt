use Rattle.std.proofs.Common.{rules}
use Rattle.deku_fields.proofs.picture.bit_place.Goals as goal

pub returns-in-Little-Msb0 : goal.returns-in-Little-Msb0
returns-in-Little-Msb0 c = search rules

pub returns-in-Little-Lsb0 : goal.returns-in-Little-Lsb0
returns-in-Little-Lsb0 c = search rules

pub returns-in-Big-Msb0 : goal.returns-in-Big-Msb0
returns-in-Big-Msb0 c = search rules

pub returns-in-Big-Lsb0 : goal.returns-in-Big-Lsb0
returns-in-Big-Lsb0 c = search rules
