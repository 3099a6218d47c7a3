-- The values that fit a field, each with exactly one list of bits; and how the number of a list is
-- made of its groups and of its bits.
use Rattle.std.specs.Prelude.{ℕ, zero, suc, ◌+◌, ◌*◌, ◌-◌, ◌/◌, ◌%◌, ◌^◌, ◌<◌, ◌≤◌, Bool, true, false, List, ◌∷◌, ◌++◌, ◌≡◌, ◌⊎◌, ◌↔◌, length, min, ℤ, pos, negsuc, neg_ℤ, ◌-ℤ◌, ◌≤ℤ◌, ◌<ℤ◌, if◌then◌else◌}
use Rattle.deku_bits.specs.declared.ctx.Order.{Order}
use Rattle.deku_bits.specs.declared.ctx.Order.TheVariants.{Msb0, Lsb0}
use Rattle.deku_bits.specs.Bits.{group_number, groups}
use Rattle.deku_num.specs.declared.ctx.Endian.{Endian}
use Rattle.deku_num.specs.declared.ctx.Endian.TheVariants.{Little, Big}
use Rattle.deku_num.specs.declared.ctx.Layout.{Layout}
use Rattle.deku_num.specs.Numbers.{NumberType, width, IsAllowed, number, value, IsFieldOf, Fits}

-- The unsigned numbers of n bits. In big `Lsb0` the last group, which has the weight 1, may be
-- short; its number then has no more bits than the group.
abbrev pub Within : Endian → Order → ℕ → ℕ → Type 0
Within Big Lsb0 n m = (m < 256 ^ groups n) × (m % 256 < 2 ^ (n - 8 * (groups n - 1)))
Within _ _ n m = m < 2 ^ n

-- The values of a field of n bits.
abbrev pub InRange : Bool → Endian → Order → ℕ → ℤ → Type 0
InRange true e o zero v = v ≡ pos 0
InRange true e o (suc n) v = (neg_ℤ (pos (2 ^ n)) ≤ℤ v) × (v <ℤ pos (2 ^ n))
InRange false e o n v = (m : ℕ) × (v ≡ pos m) × Within e o n m

-- Under a layout that is not rejected, the values that fit are those in range, and each has exactly
-- one list of bits.
abbrev pub FieldLaw : Type 0
FieldLaw = (t : NumberType) (l : Layout) → IsAllowed t l → (v : ℤ)
    → (Fits t l v ↔ InRange t.signed l.endian l.order (width t l) v)
    × ((r s : List Bool) → IsFieldOf t l v r → IsFieldOf t l v s → r ≡ s)

-- The values of a type of n bits.
abbrev pub InType : Bool → ℕ → ℤ → Type 0
InType false n v = (m : ℕ) × (v ≡ pos m) × (m < 2 ^ n)
InType true n v = (neg_ℤ (pos (2 ^ (n - 1))) ≤ℤ v) × (v <ℤ pos (2 ^ (n - 1)))

-- What a field reads, under a layout that is not rejected, is a value of its type, if the type has
-- whole bytes.
abbrev pub TypeLaw : Type 0
TypeLaw = (t : NumberType) (l : Layout) → t.bits % 8 ≡ 0 → IsAllowed t l → (s : List Bool) → length s ≡ width t l
    → InType t.signed t.bits (value t l s)

-- In whole bytes, each number below 2 ^ n has one list of n bits, in every endian and order.
abbrev pub ByteLaw : Type 0
ByteLaw = (e : Endian) (o : Order) (n m : ℕ) → n % 8 ≡ 0 → m < 2 ^ n
    → (s : List Bool) × (length s ≡ n) × (number e o s ≡ m) × ((t : List Bool) → length t ≡ n → number e o t ≡ m → t ≡ s)

-- The number of whole groups of eight bits and the bits after them, from the numbers of both.
abbrev pub SplitLaw : Type 0
SplitLaw = (o : Order) (s t : List Bool) → length s % 8 ≡ 0
    → (number Little o (s ++ t) ≡ number Little o s + number Little o t * 2 ^ length s)
    × (number Big Msb0 (s ++ t) ≡ number Big Msb0 s * 2 ^ length t + number Big Msb0 t)
    × (number Big Lsb0 (s ++ t) ≡ number Big Lsb0 s * 256 ^ groups (length t) + number Big Lsb0 t)

-- The number of a single group is the group's own number, in every endian, and it has no more bits
-- than the group.
abbrev pub GroupLaw : Type 0
GroupLaw = (e : Endian) (o : Order) (g : List Bool) → 0 < length g → length g ≤ 8
    → (number e o g ≡ group_number o g) × (group_number o g < 2 ^ length g)

-- The place of bit i of n bits: the bit counts two to the power of its place.
abbrev pub place : Endian → Order → ℕ → ℕ → ℕ
place Little Msb0 n i = 8 * (i / 8) + (min 8 (n - 8 * (i / 8)) - 1 - i % 8)
place Little Lsb0 n i = i
place Big Msb0 n i = n - 1 - i
place Big Lsb0 n i = 8 * (groups n - 1 - i / 8) + i % 8

-- Bit by bit: a bit that is set adds two to the power of its place, and the number has each bit at
-- its place.
abbrev pub BitLaw : Type 0
BitLaw = (e : Endian) (o : Order) (p q : List Bool)
    → (number e o (p ++ true ∷ q) ≡ number e o (p ++ false ∷ q) + 2 ^ place e o (length p + suc (length q)) (length p))
    × ((b : Bool) → number e o (p ++ b ∷ q) / 2 ^ place e o (length p + suc (length q)) (length p) % 2 ≡ (if b then 1 else 0))

-- The value v modulo two to the power of n.
abbrev pub residue : ℤ → ℕ → ℕ
residue (pos m) n = m % 2 ^ n
residue (negsuc m) n = 2 ^ n - 1 - m % 2 ^ n

-- A value modulo two to the power of n is below two to the power of n, and differs from the value
-- by a multiple of it.
abbrev pub ResidueLaw : Type 0
ResidueLaw = (v : ℤ) (n : ℕ) → (residue v n < 2 ^ n) × ((k : ℕ) × ((v ≡ pos (residue v n + 2 ^ n * k)) ⊎ (v ≡ pos (residue v n) -ℤ pos (2 ^ n * k))))
