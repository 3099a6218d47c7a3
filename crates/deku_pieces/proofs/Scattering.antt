-- Numbers are their low bits and their high ones, and these are those of the number that they are joined to.
use Rattle.std.proofs.Common.{◌≡◌, ℕ, ◌+◌, ◌*◌, ◌-◌, ◌/◌, ◌%◌, ◌^◌, ℤ, pos, negsuc, ap, arith}
use Rattle.std.proofs.lemmas.Nat.{pow_pos}
use Rattle.std.proofs.Math.Nat.{mod-add-div, mul_comm, mod-lt}
use Rattle.deku_pieces.specs.Scattered.{low_of, high_of, joined_of}

-- a number is that of its quotient and its remainder
parted : (a w : ℕ) → a / w * w + a % w ≡ a
parted a w = omega (arith, mod-add-div a w, mul_comm (a / w) w)

-- a number is that of its high and its low bits
pub joined_again : (k : ℕ) (v : ℤ) → joined_of k (high_of k v) (low_of k v) ≡ v
joined_again k (pos a) = ap (λ n. pos n) (parted a (2 ^ k))
joined_again k (negsuc a) = ap (λ n. negsuc n) (omega (arith, parted a (2 ^ k), mod-lt a (pow_pos k)))
