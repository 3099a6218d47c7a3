-- The checksum of RFC 1071.
use Rattle.std.specs.Prelude.{◌+◌, ◌-◌, ◌*◌, ◌/◌, ℕ, List, [], ◌∷◌}

-- The sum of bytes as words of 16 bits, the high byte first. A single last byte is a high byte.
abbrev pub total_of : List ℕ → ℕ
total_of [] = 0
total_of (high ∷ []) = high * 256
total_of (high ∷ low ∷ rest) = high * 256 + low + total_of rest

-- A sum in 16 bits, to which each carry is added: 65535 is subtracted as often as something is
-- left.
abbrev pub carried : ℕ → ℕ
carried n = n - (n - 1) / 65535 * 65535

-- The ones' complement sum of the words.
abbrev pub ones_sum_of : List ℕ → ℕ
ones_sum_of bytes = carried (total_of bytes)
