use Rattle.std.proofs.Common.{arith}
use Rattle.deku_num.proofs.FromBits.{high_front_is, low_front_is}
use Rattle.deku_num.proofs.cutting.word_bytes.Goals as goal

pub returns-in-Msb0 : goal.returns-in-Msb0
returns-in-Msb0 c = rw (c.in-Msb0.is, c.to_be_bytes.ensures) (high_front_is c.args.bits c.args.word c.requires.few c.requires.below)

pub returns-in-Lsb0 : goal.returns-in-Lsb0
returns-in-Lsb0 c = rw (c.in-Lsb0.is, c.to_le_bytes.ensures) (low_front_is c.args.bits c.args.word c.requires.few (omega arith))
