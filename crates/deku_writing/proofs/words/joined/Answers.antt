use Rattle.std.proofs.Common.{◌<◌, ◌≤◌, ◌+◌, ◌^◌, ℕ, arith, rules}
use Rattle.std.proofs.Math.Pow.{pow_mono}
use Rattle.std.proofs.lemmas.Nat.{shl_whole}
use Rattle.deku_bits.proofs.Packed.{joined_below}
use Rattle.deku_bits.proofs.Fills.{join_high, join_low, join_low_below}
use Rattle.deku_writing.proofs.words.joined.Goals as goal

fits_word : (v n : ℕ) → v < 2 ^ n → n ≤ 64 → v < 2 ^ 64
fits_word v n h l = let p : 2 ^ n ≤ 2 ^ 64 = pow_mono {i = n} {j = 64} l in omega (arith, h, p)

pub overflow_add-result : goal.overflow_add-result
overflow_add-result c =
    rw (shl_whole c.args.first c.args.a c.args.b 64 c.requires.first c.requires.most)
    (record { fits = fits_word _ (c.args.a + c.args.b) (joined_below c.args.a c.args.b c.args.first c.args.second c.requires.first c.requires.second) c.requires.most })

pub overflow_add-result-in-Lsb0 : goal.overflow_add-result-in-Lsb0
overflow_add-result-in-Lsb0 c =
    rw (shl_whole c.args.second c.args.b c.args.a 64 c.requires.second (omega (arith, c.requires.most)))
    (record { fits = fits_word _ (c.args.a + c.args.b) (join_low_below c.args.a c.args.b c.args.first c.args.second c.requires.first c.requires.second) c.requires.most })

pub returns-in-Msb0-clause-inside : goal.returns-in-Msb0-clause-inside
returns-in-Msb0-clause-inside c =
    rw (shl_whole c.args.first c.args.a c.args.b 64 c.requires.first c.requires.most)
    (joined_below c.args.a c.args.b c.args.first c.args.second c.requires.first c.requires.second)

pub returns-in-Msb0-clause-bits : goal.returns-in-Msb0-clause-bits
returns-in-Msb0-clause-bits c =
    rw (c.in-Msb0.is, shl_whole c.args.first c.args.a c.args.b 64 c.requires.first c.requires.most)
    (join_high c.args.a c.args.b c.args.first c.args.second c.requires.first c.requires.second)

pub returns-in-Lsb0-clause-inside : goal.returns-in-Lsb0-clause-inside
returns-in-Lsb0-clause-inside c =
    rw (shl_whole c.args.second c.args.b c.args.a 64 c.requires.second (omega (arith, c.requires.most)))
    (join_low_below c.args.a c.args.b c.args.first c.args.second c.requires.first c.requires.second)

pub returns-in-Lsb0-clause-bits : goal.returns-in-Lsb0-clause-bits
returns-in-Lsb0-clause-bits c =
    rw (c.in-Lsb0.is, shl_whole c.args.second c.args.b c.args.a 64 c.requires.second (omega (arith, c.requires.most)))
    (join_low c.args.a c.args.b c.args.first c.args.second c.requires.first c.requires.second)
