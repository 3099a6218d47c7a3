use Rattle.std.proofs.Common.{arith, rules, ◌-◌}
use Rattle.std.proofs.lemmas.Nat.{one_shl}
use Rattle.deku_writer.proofs.Fills.{cut_high_below, cut_high, cut_low_below, cut_low}
use Rattle.deku_writer.proofs.writer.held.split.Goals as goal

pub overflow_cast-result-in-Msb0 : goal.overflow_cast-result-in-Msb0
overflow_cast-result-in-Msb0 c = let b = cut_high_below c.args.n c.args.joined c.requires.whole c.requires.inside in search rules

pub returns-in-Msb0-clause-bits : goal.returns-in-Msb0-clause-bits
returns-in-Msb0-clause-bits c = rw (c.in-Msb0.is, one_shl (c.args.n - 8) 16 (omega arith)) (cut_high c.args.n c.args.joined c.requires.whole c.requires.inside)

pub returns-in-Lsb0-clause-inside : goal.returns-in-Lsb0-clause-inside
returns-in-Lsb0-clause-inside c = cut_low_below c.args.n c.args.joined c.requires.whole c.requires.inside

pub returns-in-Lsb0-clause-bits : goal.returns-in-Lsb0-clause-bits
returns-in-Lsb0-clause-bits c = rw c.in-Lsb0.is (cut_low c.args.n c.args.joined c.requires.whole c.requires.inside)

pub overflow_sub-behind : goal.overflow_sub-behind
overflow_sub-behind c = search rules

pub overflow_cast-result : goal.overflow_cast-result
overflow_cast-result c = search rules

pub overflow_shr-result : goal.overflow_shr-result
overflow_shr-result c = search rules

pub overflow_cast-result-in-Msb0-2 : goal.overflow_cast-result-in-Msb0-2
overflow_cast-result-in-Msb0-2 c = search rules

pub overflow_shl-result : goal.overflow_shl-result
overflow_shl-result c = search rules

pub nonzero_rem-result : goal.nonzero_rem-result
nonzero_rem-result c = search rules

pub overflow_cast-result-in-Msb0-3 : goal.overflow_cast-result-in-Msb0-3
overflow_cast-result-in-Msb0-3 c = search rules

pub overflow_cast-result-in-Lsb0 : goal.overflow_cast-result-in-Lsb0
overflow_cast-result-in-Lsb0 c = search rules

pub overflow_cast-result-in-Lsb0-2 : goal.overflow_cast-result-in-Lsb0-2
overflow_cast-result-in-Lsb0-2 c = search rules

pub returns-in-Msb0-clause-inside : goal.returns-in-Msb0-clause-inside
returns-in-Msb0-clause-inside c = search rules
