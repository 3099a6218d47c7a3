use Rattle.std.proofs.Common.{arith, rules}
use Rattle.deku_stream.proofs.Packed.{joined_below, shifted}
use Rattle.deku_writer.proofs.Fills.{join_high, join_low, join_low_below}
use Rattle.deku_writer.proofs.writer.held.join.Goals as goal

pub returns-in-Msb0-clause-inside : goal.returns-in-Msb0-clause-inside
returns-in-Msb0-clause-inside c =
    rw (shifted c.args.a c.args.first c.args.b c.requires.first (omega (arith, c.requires.short)) c.requires.size) (joined_below c.args.a c.args.b c.args.first c.args.second c.requires.first c.requires.second)

pub returns-in-Msb0-clause-bits : goal.returns-in-Msb0-clause-bits
returns-in-Msb0-clause-bits c =
    rw (c.in-Msb0.is, shifted c.args.a c.args.first c.args.b c.requires.first (omega (arith, c.requires.short)) c.requires.size)
    (join_high c.args.a c.args.b c.args.first c.args.second c.requires.first c.requires.second)

pub returns-in-Lsb0-clause-inside : goal.returns-in-Lsb0-clause-inside
returns-in-Lsb0-clause-inside c =
    rw (shifted c.args.b c.args.second c.args.a c.requires.second c.requires.size (omega (arith, c.requires.short))) (join_low_below c.args.a c.args.b c.args.first c.args.second c.requires.first c.requires.second)

pub returns-in-Lsb0-clause-bits : goal.returns-in-Lsb0-clause-bits
returns-in-Lsb0-clause-bits c =
    rw (c.in-Lsb0.is, shifted c.args.b c.args.second c.args.a c.requires.second c.requires.size (omega (arith, c.requires.short)))
    (join_low c.args.a c.args.b c.args.first c.args.second c.requires.first c.requires.second)

pub overflow_cast-result-in-Msb0 : goal.overflow_cast-result-in-Msb0
overflow_cast-result-in-Msb0 c = search rules

pub overflow_shl-result : goal.overflow_shl-result
overflow_shl-result c = search rules

pub overflow_add-result : goal.overflow_add-result
overflow_add-result c = search rules

pub overflow_cast-result-in-Lsb0-3 : goal.overflow_cast-result-in-Lsb0-3
overflow_cast-result-in-Lsb0-3 c = search rules

pub overflow_shl-result-in-Lsb0 : goal.overflow_shl-result-in-Lsb0
overflow_shl-result-in-Lsb0 c = search rules

pub overflow_add-result-in-Lsb0 : goal.overflow_add-result-in-Lsb0
overflow_add-result-in-Lsb0 c = search rules
