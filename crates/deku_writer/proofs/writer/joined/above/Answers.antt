use Rattle.std.proofs.Common.{◌<◌, ◌≤◌, ◌*◌, ◌/◌, ◌%◌, ◌^◌, arith, rules}
use Rattle.std.proofs.Math.Pow.{pow_mono}
use Rattle.deku_writer.proofs.WordsWritten.{last_below}
use Rattle.deku_writer.proofs.writer.joined.above.Goals as goal

pub overflow_cast-result : goal.overflow_cast-result
overflow_cast-result c =
    let b = last_below c.args.n c.args.joined c.requires.inside in
    let p : 2 ^ (c.args.n % 8) ≤ 2 ^ 8 = pow_mono {i = c.args.n % 8} {j = 8} (omega arith) in
    let k : c.args.joined / 2 ^ (8 * (c.args.n / 8)) < 2 ^ 8 = omega arith in
    search rules

pub returns-clause-inside : goal.returns-clause-inside
returns-clause-inside c = last_below c.args.n c.args.joined c.requires.inside

pub returns-then-n-eq64-clause-number : goal.returns-then-n-eq64-clause-number
returns-then-n-eq64-clause-number c = search rules

pub returns-then-n-eq64-clause-inside : goal.returns-then-n-eq64-clause-inside
returns-then-n-eq64-clause-inside c = search rules

pub overflow_mul-result : goal.overflow_mul-result
overflow_mul-result c = search rules

pub overflow_shr-result : goal.overflow_shr-result
overflow_shr-result c = search rules

pub returns-clause-number : goal.returns-clause-number
returns-clause-number c = search rules
