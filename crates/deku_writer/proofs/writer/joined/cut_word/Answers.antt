use Rattle.std.proofs.Common.{arith, rules, ◌%◌, ◌-◌}
use Rattle.std.proofs.lemmas.Nat.{one_shl, shl_whole}
use Rattle.deku_writer.proofs.Joined.{cut_high, cut_low}
use Rattle.deku_writer.proofs.writer.joined.cut_word.Goals as goal

pub returns-in-Msb0-clause-bits : goal.returns-in-Msb0-clause-bits
returns-in-Msb0-clause-bits c =
    let n = c.args.n in
    rw (c.in-Msb0.is, c.to_be_bytes.ensures, one_shl (n % 8) 64 (omega arith), shl_whole c.args.joined n (64 - n) 64 c.requires.inside (omega arith))
    (cut_high n c.args.joined c.requires.some c.requires.most c.requires.inside)

pub returns-in-Lsb0-clause-bits : goal.returns-in-Lsb0-clause-bits
returns-in-Lsb0-clause-bits c =
    rw (c.in-Lsb0.is, c.to_le_bytes.ensures, c.above.ensures.number) (cut_low c.args.n c.args.joined c.requires.some c.requires.most c.requires.inside)

pub overflow_sub-n : goal.overflow_sub-n
overflow_sub-n c = search rules

pub overflow_shl-joined : goal.overflow_shl-joined
overflow_shl-joined c = search rules

pub overflow_shl-result : goal.overflow_shl-result
overflow_shl-result c = search rules

pub nonzero_rem-result-in-Msb0 : goal.nonzero_rem-result-in-Msb0
nonzero_rem-result-in-Msb0 c = search rules

pub overflow_cast-result : goal.overflow_cast-result
overflow_cast-result c = search rules

pub above-requires-clause-most : goal.above-requires-clause-most
above-requires-clause-most c = search rules

pub above-requires-clause-inside : goal.above-requires-clause-inside
above-requires-clause-inside c = search rules

pub returns-in-Msb0-clause-inside : goal.returns-in-Msb0-clause-inside
returns-in-Msb0-clause-inside c = search rules

pub returns-in-Msb0-clause-bytes : goal.returns-in-Msb0-clause-bytes
returns-in-Msb0-clause-bytes c = search rules

pub returns-in-Lsb0-clause-inside : goal.returns-in-Lsb0-clause-inside
returns-in-Lsb0-clause-inside c = search rules

pub returns-in-Lsb0-clause-bytes : goal.returns-in-Lsb0-clause-bytes
returns-in-Lsb0-clause-bytes c = search rules
