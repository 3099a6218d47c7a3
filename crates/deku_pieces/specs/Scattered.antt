-- Signed numbers whose low bits are stored apart from their high bits.
use Rattle.std.specs.Prelude.{ℕ, ◌+◌, ◌*◌, ◌-◌, ◌/◌, ◌%◌, ◌^◌, ℤ, pos, negsuc}

-- The lowest k bits, in two's complement.
abbrev pub low_of : ℕ → ℤ → ℕ
low_of k (pos a) = a % 2 ^ k
low_of k (negsuc a) = 2 ^ k - 1 - a % 2 ^ k

-- The bits above them, as a signed number.
abbrev pub high_of : ℕ → ℤ → ℤ
high_of k (pos a) = pos (a / 2 ^ k)
high_of k (negsuc a) = negsuc (a / 2 ^ k)

-- The number that is made of these high bits and k low bits.
abbrev pub joined_of : ℕ → ℤ → ℕ → ℤ
joined_of k (pos h) l = pos (h * 2 ^ k + l)
joined_of k (negsuc h) l = negsuc (h * 2 ^ k + (2 ^ k - 1 - l))
