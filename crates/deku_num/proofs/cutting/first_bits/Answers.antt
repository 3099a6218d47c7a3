use Rattle.std.proofs.Common.{◌≡◌, ◌+◌, ◌-◌, ◌^◌, ◌<◌, subst, arith}
use Rattle.std.proofs.lemmas.Nat.{shr_below}
use Rattle.deku_num.proofs.cutting.first_bits.Goals as goal

pub returns-in-Msb0-Msb0-clause-below : goal.returns-in-Msb0-Msb0-clause-below
returns-in-Msb0-Msb0-clause-below c =
    let whole : c.args.room ≡ c.in-Ok.width + (c.args.room - c.in-Ok.width) = omega (arith, c.if-room-width.false) in
    shr_below c.args.word c.in-Ok.width (c.args.room - c.in-Ok.width) (subst (λ n. c.args.word < 2 ^ n) whole c.requires.below)
