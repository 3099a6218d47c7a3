use Rattle.std.proofs.Common.{ap, arith, rules, ◌+◌}
use Rattle.deku_reader.proofs.WordsRead.{joined_fits}
use Rattle.deku_reader.proofs.reader.progress.words.joined.Goals as goal

pub overflow_add-result : goal.overflow_add-result
overflow_add-result c =
    let h = joined_fits c.args.first c.args.second c.args.inside c.args.behind c.requires.first c.requires.second c.requires.few in
    rw h.0 (record { fits = h.1 })

pub overflow_add-result-in-Lsb0 : goal.overflow_add-result-in-Lsb0
overflow_add-result-in-Lsb0 c =
    let h = joined_fits c.args.second c.args.first c.args.behind c.args.inside c.requires.second c.requires.first (omega arith) in
    rw h.0 (record { fits = omega (arith, h.1) })

pub returns-in-Msb0-clause-high : goal.returns-in-Msb0-clause-high
returns-in-Msb0-clause-high c = λ o.
    ap (λ x. x + c.args.second) ((joined_fits c.args.first c.args.second c.args.inside c.args.behind c.requires.first c.requires.second c.requires.few).0)

pub returns-in-Lsb0-clause-low : goal.returns-in-Lsb0-clause-low
returns-in-Lsb0-clause-low c = λ o.
    ap (λ x. c.args.first + x) ((joined_fits c.args.second c.args.first c.args.behind c.args.inside c.requires.second c.requires.first (omega arith)).0)

pub overflow_cast-result : goal.overflow_cast-result
overflow_cast-result c = search rules

pub overflow_shl-result : goal.overflow_shl-result
overflow_shl-result c = search rules

pub overflow_cast-result-in-Lsb0 : goal.overflow_cast-result-in-Lsb0
overflow_cast-result-in-Lsb0 c = search rules

pub overflow_shl-result-in-Lsb0 : goal.overflow_shl-result-in-Lsb0
overflow_shl-result-in-Lsb0 c = search rules

pub returns-in-Msb0-clause-low : goal.returns-in-Msb0-clause-low
returns-in-Msb0-clause-low c = search rules

pub returns-in-Lsb0-clause-high : goal.returns-in-Lsb0-clause-high
returns-in-Lsb0-clause-high c = search rules
