use Rattle.std.proofs.lemmas.Grind.{common_steps}
use Rattle.std.proofs.Common.{arith, rules, ◌-◌, ◌<◌}
use Rattle.std.proofs.Math.Pow.{pow_mono}
use Rattle.std.proofs.lemmas.Nat.{one_shl}
use Rattle.deku_num.proofs.Fitted.{half_twice}
use Rattle.deku_num.proofs.kernel.sign_extend.Goals as goal

pub with_sign-requires-clause-below : goal.with_sign-requires-clause-below
with_sign-requires-clause-below c =
    let some : 0 < c.args.n = omega arith in
    rw (c.narrow_power.ensures, half_twice c.args.n some) c.requires.below

pub with_sign-requires-clause-fits : goal.with_sign-requires-clause-fits
with_sign-requires-clause-fits c = rw c.narrow_power.ensures (pow_mono {i = c.args.n - 1} {j = 127} (omega arith))

pub with_sign-requires-2-clause-below : goal.with_sign-requires-2-clause-below
with_sign-requires-2-clause-below c =
    let some : 0 < c.args.n = omega arith in
    rw (one_shl (c.args.n - 1) 128 (omega arith), half_twice c.args.n some) c.requires.below

pub with_sign-requires-2-clause-fits : goal.with_sign-requires-2-clause-fits
with_sign-requires-2-clause-fits c = rw (one_shl (c.args.n - 1) 128 (omega arith)) (pow_mono {i = c.args.n - 1} {j = 127} (omega arith))

pub returns-then-n-eq0 : goal.returns-then-n-eq0
returns-then-n-eq0 c = search rules

pub overflow_sub-n : goal.overflow_sub-n
overflow_sub-n c = search rules

pub narrow_power-requires : goal.narrow_power-requires
narrow_power-requires c = search rules

pub returns-then-n-le64 : goal.returns-then-n-le64
returns-then-n-le64 c = search rules

pub overflow_sub-n-2 : goal.overflow_sub-n-2
overflow_sub-n-2 c = search rules

pub overflow_cast-n : goal.overflow_cast-n
overflow_cast-n c = search rules

pub overflow_shl-n : goal.overflow_shl-n
overflow_shl-n c = search rules

pub returns : goal.returns
returns c = grind (arith, common_steps)
