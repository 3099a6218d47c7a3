use Rattle.std.proofs.Common.{◌+◌, refl, arith, rules}
use Rattle.std.proofs.lemmas.Nat.{shl_whole}
use Rattle.deku_stream.proofs.Packed.{joined_below}
use Rattle.deku_writer.proofs.Fills.{join_high, join_low, join_low_below}
use Rattle.deku_writer.proofs.Joined.{none_in_front, fits_word}
use Rattle.deku_writer.proofs.writer.joined.join_number.Goals as goal

pub returns-then-a-eq0-clause-bits : goal.returns-then-a-eq0-clause-bits
returns-then-a-eq0-clause-bits c = rw c.in-Msb0.is (none_in_front c.args.a c.args.n c.args.first c.args.number _ c.if-a-eq0.true refl)

pub overflow_add-result : goal.overflow_add-result
overflow_add-result c =
    rw (shl_whole c.args.first c.args.a c.args.n 64 c.requires.first c.requires.most)
    (record { fits = fits_word _ (c.args.a + c.args.n) (joined_below c.args.a c.args.n c.args.first c.args.number c.requires.first c.requires.number) c.requires.most })

pub overflow_add-result-in-Lsb0 : goal.overflow_add-result-in-Lsb0
overflow_add-result-in-Lsb0 c =
    rw (shl_whole c.args.number c.args.n c.args.a 64 c.requires.number (omega (arith, c.requires.most)))
    (record { fits = fits_word _ (c.args.a + c.args.n) (join_low_below c.args.a c.args.n c.args.first c.args.number c.requires.first c.requires.number) c.requires.most })

pub returns-else-a-eq0-clause-inside : goal.returns-else-a-eq0-clause-inside
returns-else-a-eq0-clause-inside c =
    rw (shl_whole c.args.first c.args.a c.args.n 64 c.requires.first c.requires.most)
    (joined_below c.args.a c.args.n c.args.first c.args.number c.requires.first c.requires.number)

pub returns-else-a-eq0-clause-bits : goal.returns-else-a-eq0-clause-bits
returns-else-a-eq0-clause-bits c =
    rw (c.in-Msb0.is, shl_whole c.args.first c.args.a c.args.n 64 c.requires.first c.requires.most)
    (join_high c.args.a c.args.n c.args.first c.args.number c.requires.first c.requires.number)

pub returns-in-Lsb0-clause-inside : goal.returns-in-Lsb0-clause-inside
returns-in-Lsb0-clause-inside c =
    rw (shl_whole c.args.number c.args.n c.args.a 64 c.requires.number (omega (arith, c.requires.most)))
    (join_low_below c.args.a c.args.n c.args.first c.args.number c.requires.first c.requires.number)

pub returns-in-Lsb0-clause-bits : goal.returns-in-Lsb0-clause-bits
returns-in-Lsb0-clause-bits c =
    rw (c.in-Lsb0.is, shl_whole c.args.number c.args.n c.args.a 64 c.requires.number (omega (arith, c.requires.most)))
    (join_low c.args.a c.args.n c.args.first c.args.number c.requires.first c.requires.number)
