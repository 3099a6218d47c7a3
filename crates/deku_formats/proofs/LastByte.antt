-- What is left of a sum where no word is left: a byte, or none.
use Rattle.std.proofs.Common.{◌≡◌, ℕ, ◌+◌, ◌*◌, ◌<◌, ◌≤◌, List, [], ◌∷◌, length, slice_index_or, arith}
use Rattle.deku_formats.specs.Checksum.{total_of, carried}

-- a last byte
pub ended : (sum s : ℕ) (rest : List ℕ) → s ≡ carried (sum + slice_index_or rest 0 0 * 256) → 1 ≤ length rest → length rest < 2 → s ≡ carried (sum + total_of rest)
ended sum s [] e l m = absurd (omega (arith, l))
ended sum s (a ∷ []) e l m = e
ended sum s (a ∷ b ∷ more) e l m = absurd (omega (arith, m))

-- no byte
pub whole : (sum : ℕ) (rest : List ℕ) → sum < 65536 → length rest < 1 → sum ≡ carried (sum + total_of rest)
whole sum [] small l = omega (arith, small)
whole sum (a ∷ more) small l = absurd (omega (arith, l))
