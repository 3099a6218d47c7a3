use Rattle.std.proofs.Common.{◌≡◌, ◌⊎◌, length, rules}
use Rattle.deku_writer.proofs.Filling.{behind_meets, number_behind, onto_given}
use Rattle.deku_writer.proofs.writer.numbers.lay_number.Goals as goal

pub returns-then-laid-clause-pushed : goal.returns-then-laid-clause-pushed
returns-then-laid-clause-pushed g c = λ laid.
    let behind : (length c.args.held.now ≡ 0) ⊎ (c.args.from ≡ c.args.to) = search rules in
    let filled = rw c.copy-next.ensures at c.fill_number-count.ensures.fills in
    let fills = number_behind c.args.from c.args.to c.args.held.now c.fill_number-count.new.self c.args.n c.args.number _ behind c.requires.some filled in
    rw c.follow.ensures (onto_given _ _ c.args.from c.args.to c.args.held.now c.fill_number-count.new.self _ _ fills (c.try_put-laid.ensures.gave laid))

pub returns-then-laid-clause-order : goal.returns-then-laid-clause-order
returns-then-laid-clause-order g c = λ laid.
    let behind : (length c.args.held.now ≡ 0) ⊎ (c.args.from ≡ c.args.to) = search rules in
    behind_meets c.args.from c.args.to c.args.held.now behind
