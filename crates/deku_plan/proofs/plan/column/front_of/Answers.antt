use Rattle.std.proofs.Common.{◌≡◌, ◌+◌, ◌*◌, ◌≤◌, arith}
use Rattle.std.proofs.Math.Nat.{mul-le-mul_right}
use Rattle.deku_plan.proofs.plan.column.front_of.Goals as goal

pub returns-else-size-ge8-clause-there : goal.returns-else-size-ge8-clause-there
returns-else-size-ge8-clause-there c = λ k lt.
    let size = c.args.size in
    let parts : (k + 9) * size ≡ k * size + 9 * size = omega arith in
    let most : (k + 9) * size ≤ c.args.count * size = mul-le-mul_right size (omega (arith, lt, c.saturating_sub.ensures)) in
    omega (arith, parts, most, c.requires.inside, c.requires.there)
