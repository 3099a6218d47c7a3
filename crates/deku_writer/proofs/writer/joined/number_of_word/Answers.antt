use Rattle.std.proofs.Common.{sym}
use Rattle.deku_writer.proofs.Joined.{low_word}
use Rattle.deku_writer.proofs.writer.joined.number_of_word.Goals as goal

pub returns-in-Msb0-clause-bits : goal.returns-in-Msb0-clause-bits
returns-in-Msb0-clause-bits c = rw c.in-Msb0.is c.high_number.ensures.bits

pub returns-in-Lsb0-clause-bits : goal.returns-in-Lsb0-clause-bits
returns-in-Lsb0-clause-bits c = rw c.in-Lsb0.is (sym (low_word c.args.n c.args.word))
