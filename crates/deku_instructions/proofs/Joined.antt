-- A number of high bits and low ones is their sum.
use Rattle.std.proofs.Common.{◌≡◌, ℕ, ◌^◌, ◌<◌, ℤ, pos, negsuc, ◌+ℤ◌, ◌*ℤ◌, arith}
use Rattle.std.proofs.lemmas.Int.{ints}
use Rattle.deku_pieces.specs.Scattered.{joined_of}

-- of five low bits
pub on_five : (h : ℤ) (l : ℕ) → l < 2 ^ 5 → h *ℤ pos 32 +ℤ pos l ≡ joined_of 5 h l
on_five (pos h) l small = omega (arith, ints, small)
on_five (negsuc h) l small = omega (arith, ints, small)

-- of eleven
pub on_eleven : (h : ℤ) (l : ℕ) → l < 2 ^ 11 → h *ℤ pos 2048 +ℤ pos l ≡ joined_of 11 h l
on_eleven (pos h) l small = omega (arith, ints, small)
on_eleven (negsuc h) l small = omega (arith, ints, small)

-- of nineteen
pub on_nineteen : (h : ℤ) (l : ℕ) → l < 2 ^ 19 → h *ℤ pos 524288 +ℤ pos l ≡ joined_of 19 h l
on_nineteen (pos h) l small = omega (arith, ints, small)
on_nineteen (negsuc h) l small = omega (arith, ints, small)
