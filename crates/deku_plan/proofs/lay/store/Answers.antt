use Rattle.std.proofs.Common.{◌-◌, arith}
use Rattle.std.proofs.lemmas.Nat.{shl_whole}
use Rattle.deku_plan.proofs.Laying.{stored, stored_whole}
use Rattle.deku_plan.proofs.lay.store.Goals as goal

pub returns-then-from-eq0-clause-bits : goal.returns-then-from-eq0-clause-bits
returns-then-from-eq0-clause-bits c =
    let n = c.args.from.held in
    let whole = shl_whole c.args.from.word n (64 - n) 64 c.requires.held.below (omega (arith, c.requires.held.few)) in
    stored_whole c.args.out.now c.put_first.new.out c.args.from.place n c.args.from.word c.requires.some c.requires.held.few (omega arith) (rw whole at c.put_first.ensures.front)

pub returns-clause-bits : goal.returns-clause-bits
returns-clause-bits c =
    let n = c.args.from.held in
    let whole = shl_whole c.args.from.word n (64 - n) 64 c.requires.held.below (omega (arith, c.requires.held.few)) in
    rw (c.last_bits.ensures.place, c.last_bits.ensures.word, c.last_bits.ensures.held)
    (stored c.args.out.now c.put_first.new.out c.args.from.place n c.args.from.word c.requires.some c.requires.held.few (rw whole at c.put_first.ensures.front))
