use Rattle.std.proofs.Common.{◌≡◌, ◌*◌, ◌/◌, ◌^◌, ◌<◌, ◌∙◌, arith}
use Rattle.deku_num.proofs.FromBits.{group_is, low_is, high_turned_is, low_turned_is, high_turned_again, low_turned_again}
use Rattle.deku_num.proofs.Carrying.{high_number}
use Rattle.deku_num.proofs.cutting.number_of_bits.Goals as goal

pub returns-then-width-le8-clause-number : goal.returns-then-width-le8-clause-number
returns-then-width-le8-clause-number c = group_is c.args.endian c.args.order c.args.width c.args.bits (omega arith) c.requires.below

pub returns-in-Big-Msb0-clause-number : goal.returns-in-Big-Msb0-clause-number
returns-in-Big-Msb0-clause-number c = rw (c.in-Big-Msb0.is-0, c.in-Big-Msb0.is-1) (high_number c.args.width c.args.bits c.requires.below)

pub returns-in-Little-Lsb0-clause-number : goal.returns-in-Little-Lsb0-clause-number
returns-in-Little-Lsb0-clause-number c = rw (c.in-Little-Lsb0.is-0, c.in-Little-Lsb0.is-1) (low_is c.args.width c.args.bits c.requires.below)

pub returns-in-Little-Msb0-clause-number : goal.returns-in-Little-Msb0-clause-number
returns-in-Little-Msb0-clause-number c =
    rw (c.in-Little-Msb0.is-0, c.in-Little-Msb0.is-1)
    (c.turned-in-Little-Msb0.ensures.value ∙ high_turned_is c.args.width c.args.bits (omega (arith, c.if-width-eq0-2.true)) (omega arith) c.requires.below)

pub returns-in-Big-Lsb0-clause-number : goal.returns-in-Big-Lsb0-clause-number
returns-in-Big-Lsb0-clause-number c =
    rw (c.in-Big-Lsb0.is-0, c.in-Big-Lsb0.is-1)
    (c.turned.ensures.value ∙ low_turned_is c.args.width c.args.bits (omega (arith, c.if-width-eq0.true)) (omega arith) c.requires.below)

pub returns-then-width-le8-clause-back : goal.returns-then-width-le8-clause-back
returns-then-width-le8-clause-back c = group_is c.args.endian c.args.order c.args.width c.args.bits (omega arith) c.requires.below

pub returns-in-Big-Msb0-clause-back : goal.returns-in-Big-Msb0-clause-back
returns-in-Big-Msb0-clause-back c = rw (c.in-Big-Msb0.is-0, c.in-Big-Msb0.is-1) (high_number c.args.width c.args.bits c.requires.below)

pub returns-in-Little-Lsb0-clause-back : goal.returns-in-Little-Lsb0-clause-back
returns-in-Little-Lsb0-clause-back c = rw (c.in-Little-Lsb0.is-0, c.in-Little-Lsb0.is-1) (low_is c.args.width c.args.bits c.requires.below)

pub returns-in-Little-Msb0-clause-back : goal.returns-in-Little-Msb0-clause-back
returns-in-Little-Msb0-clause-back c =
    let whole = c.if-width-eq0-2.true in
    let wide : 8 * (c.args.width / 8) ≡ c.args.width = omega (arith, whole) in
    let low : c.turned-in-Little-Msb0.result < 2 ^ c.args.width = rw (← wide) c.turned-in-Little-Msb0.ensures.bound in
    rw (c.in-Little-Msb0.is-0, c.in-Little-Msb0.is-1)
    (high_turned_again c.args.width c.args.bits _ (omega (arith, whole)) (omega arith) c.requires.below low
    (c.turned-in-Little-Msb0.ensures.value ∙ high_turned_is c.args.width c.args.bits (omega (arith, whole)) (omega arith) c.requires.below))

pub returns-in-Big-Lsb0-clause-back : goal.returns-in-Big-Lsb0-clause-back
returns-in-Big-Lsb0-clause-back c =
    let whole = c.if-width-eq0.true in
    let wide : 8 * (c.args.width / 8) ≡ c.args.width = omega (arith, whole) in
    let low : c.turned.result < 2 ^ c.args.width = rw (← wide) c.turned.ensures.bound in
    rw (c.in-Big-Lsb0.is-0, c.in-Big-Lsb0.is-1)
    (low_turned_again c.args.width c.args.bits _ (omega (arith, whole)) (omega arith) c.requires.below low
    (c.turned.ensures.value ∙ low_turned_is c.args.width c.args.bits (omega (arith, whole)) (omega arith) c.requires.below))
