-- Lists of truth values, the high bit first; the eight bits of a byte; groups of eight.
use Rattle.std.specs.Prelude.{ℕ, zero, suc, ◌+◌, ◌*◌, ◌/◌, ◌%◌, ◌^◌, Bool, List, [], ◌∷◌, reverse, length, map, flat_map, ◌≡◌, ◌<◌, ◌≤◌, ◌-◌, ◌++◌, take, drop, if◌then◌else◌, ◌==◌}
use Rattle.deku_stream.specs.declared.ctx.Order.{Order}
use Rattle.deku_stream.specs.declared.ctx.Order.TheVariants.{Msb0, Lsb0}

-- The binary number of a list, of which the first bit is the highest.
abbrev pub bin : List Bool → ℕ
bin [] = 0
bin (b ∷ s) = (if b then 1 else 0) * 2 ^ length s + bin s

-- The n lowest bits of a number, the high bit first.
unfoldable pub bits_of : ℕ → ℕ → List Bool
bits_of zero v = []
bits_of (suc n) v = (v / 2 ^ n % 2 == 1) ∷ bits_of n v

-- The eight bits of a byte, the high bit first.
unfoldable pub byte_bits : ℕ → List Bool
byte_bits b = bits_of 8 b

-- The bits of bytes, each with its high bit first.
abbrev pub bits_in : List ℕ → List Bool
bits_in bs = flat_map byte_bits bs

-- A list as an order takes it: from its front in `Msb0`, and from its end in `Lsb0`.
abbrev pub facing : Order → List Bool → List Bool
facing Msb0 s = s
facing Lsb0 s = reverse s

-- The groups of eight from the front. The last may be short.
abbrev pub chunks : List Bool → List (List Bool)
chunks [] = []
chunks (a ∷ b ∷ c ∷ d ∷ e ∷ f ∷ g ∷ h ∷ s) = (a ∷ b ∷ c ∷ d ∷ e ∷ f ∷ g ∷ h ∷ []) ∷ chunks s
chunks s = s ∷ []

-- The bytes of bits, each with its high bit first.
abbrev pub bytes_of : List Bool → List ℕ
bytes_of s = map bin (chunks s)

-- How many groups of eight n bits make. The last may be short.
abbrev pub groups : ℕ → ℕ
groups n = (n + 7) / 8

-- The number of a group: that of its bits in `Msb0`, and that of its reversed bits in `Lsb0`.
abbrev pub group_number : Order → List Bool → ℕ
group_number o g = bin (facing o g)

-- The first number has the weight 1, and each further one 256 times the weight of the one before
-- it.
abbrev pub little : List ℕ → ℕ
little [] = 0
little (c ∷ cs) = c + 256 * little cs

-- The word of a list: the number of its first group has the weight 1, and that of each further one
-- 256 times the weight of the one before it.
abbrev pub word_of : Order → List Bool → ℕ
word_of o s = little (map (group_number o) (chunks s))

-- What a read shows of the list that it took. In `Lsb0` whole bytes are reversed each by itself,
-- and any other list as one. A list that is shown twice is itself again.
unfoldable pub shown : Order → List Bool → List Bool
shown Msb0 s = s
shown Lsb0 s = if length s % 8 == 0 then flat_map reverse (chunks s) else reverse s

-- The number of two parts of a group, from the numbers of both.
abbrev pub JoinLaw : Type 0
JoinLaw = (s t : List Bool)
    → (group_number Msb0 (s ++ t) ≡ group_number Msb0 s * 2 ^ length t + group_number Msb0 t)
    × (group_number Lsb0 (s ++ t) ≡ group_number Lsb0 s + group_number Lsb0 t * 2 ^ length s)

-- The first p bits of a byte in an order, and those after them, as numbers: a shift and a mask.
abbrev pub PackLaw : Type 0
PackLaw = (b p : ℕ) → b < 256 → p ≤ 8
    → (group_number Msb0 (take p (facing Msb0 (byte_bits b))) ≡ b / 2 ^ (8 - p))
    × (group_number Msb0 (drop p (facing Msb0 (byte_bits b))) ≡ b % 2 ^ (8 - p))
    × (group_number Lsb0 (take p (facing Lsb0 (byte_bits b))) ≡ b % 2 ^ p)
    × (group_number Lsb0 (drop p (facing Lsb0 (byte_bits b))) ≡ b / 2 ^ p)
