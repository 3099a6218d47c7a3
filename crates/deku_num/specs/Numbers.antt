-- Whole numbers as lists of bits: widths, rejected layouts, and the values of lists.
use Rattle.std.specs.Prelude.{ℕ, suc, ◌+◌, ◌*◌, ◌%◌, ◌^◌, ◌<◌, ◌≤◌, Bool, true, false, List, [], ◌∷◌, ◌≡◌, ◌⊎◌, map, length, ℤ, pos, ◌-ℤ◌, if◌then◌else◌, nat_le}
use Rattle.deku_bits.specs.declared.ctx.Order.{Order}
use Rattle.deku_bits.specs.declared.ctx.Order.TheVariants.{Msb0, Lsb0}
use Rattle.deku_bits.specs.Bits.{bin, chunks, group_number, word_of}
use Rattle.deku_num.specs.declared.ctx.Endian.{Endian}
use Rattle.deku_num.specs.declared.ctx.Endian.TheVariants.{Little, Big}
use Rattle.deku_num.specs.declared.ctx.Size.{Size}
use Rattle.deku_num.specs.declared.ctx.Size.TheVariants.{Whole, Bits, Bytes}
use Rattle.deku_num.specs.declared.ctx.Layout.{Layout}
pub use Rattle.deku_num.specs.declared.kind.NumberType.{NumberType}

-- An unsigned type of n bits, wider than `u8`.
abbrev pub unsigned : ℕ → NumberType
unsigned n = record { bits = n; signed = false; one_byte = false }

-- A signed type of n bits.
abbrev pub signed : ℕ → NumberType
signed n = record { bits = n; signed = true; one_byte = false }

-- The type `u8`.
abbrev pub byte : NumberType
byte = record { bits = 8; signed = false; one_byte = true }

-- The bits of the type, the bit size, or eight times the byte size. For `u8` any byte size is eight
-- bits.
abbrev pub sized_width : NumberType → Size → ℕ
sized_width t Whole = t.bits
sized_width t (Bits n) = n
sized_width t (Bytes n) = if t.one_byte then 8 else 8 * n

-- How many bits a number of the type takes under a layout.
abbrev pub width : NumberType → Layout → ℕ
width t l = sized_width t l.size

-- For signed, big and `Lsb0`, a width above 8 has to be a multiple of 8.
abbrev pub IsEvenWhere : Bool → Endian → Order → ℕ → Type 0
IsEvenWhere true Big Lsb0 n = (n ≤ 8) ⊎ (n % 8 ≡ 0)
IsEvenWhere _ _ _ n = n ≡ n

-- A layout that is not rejected for the type.
pub record IsAllowed (t : NumberType) (l : Layout) : Type 0 where
  pub within : width t l ≤ t.bits
  pub even : IsEvenWhere t.signed l.endian l.order (width t l)

-- The last number has the weight 1, and each earlier one 256 times the weight of the next.
abbrev pub big : List ℕ → ℕ
big [] = 0
big (c ∷ cs) = c * 256 ^ length cs + big cs

-- The number of a list of bits. In big `Msb0` it is their binary number. Otherwise it is made of
-- the numbers of the groups of eight: in little the first group has the weight 1, and in big the
-- last.
unfoldable pub number : Endian → Order → List Bool → ℕ
number Little o s = word_of o s
number Big Msb0 s = bin s
number Big Lsb0 s = big (map (group_number Lsb0) (chunks s))

-- The value of a number of n bits. If it is signed and the number is half of 2 ^ n or more, it is
-- less by 2 ^ n.
abbrev pub with_sign : Bool → ℕ → ℕ → ℤ
with_sign true (suc n) m = if nat_le (2 ^ n) m then pos m -ℤ pos (2 ^ suc n) else pos m
with_sign _ _ m = pos m

-- The value of a list of bits.
unfoldable pub value : NumberType → Layout → List Bool → ℤ
value t l s = with_sign t.signed (length s) (number l.endian l.order s)

-- A list of bits of the width of the field with the value v.
pub record IsFieldOf (t : NumberType) (l : Layout) (v : ℤ) (s : List Bool) : Type 0 where
  pub wide : length s ≡ width t l
  pub worth : value t l s ≡ v

-- The value v fits: some list of this width has it.
abbrev pub Fits : NumberType → Layout → ℤ → Type 0
Fits t l v = (s : List Bool) × IsFieldOf t l v s

-- The word of the list with the value v: it has the width, and the list of this width that has this
-- word has the value v.
pub record IsWordFor (t : NumberType) (l : Layout) (v : ℤ) (w : ℕ) : Type 0 where
  pub below : w < 2 ^ width t l
  pub list : (s : List Bool) → length s ≡ width t l → word_of l.order s ≡ w → IsFieldOf t l v s
