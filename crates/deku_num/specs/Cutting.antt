-- Numbers of several fields' bits, the first bit the highest in `Msb0` and the lowest in `Lsb0`.
use Rattle.std.specs.Prelude.{◌≡◌, ℕ, ◌-◌, ◌/◌, ◌%◌, ◌<◌, ◌≤◌, ◌^◌, ℤ}
use Rattle.deku_bits.specs.declared.ctx.Order.{Order}
use Rattle.deku_bits.specs.declared.ctx.Order.TheVariants.{Msb0, Lsb0}
use Rattle.deku_bits.specs.Bits.{bits_of, facing}
use Rattle.deku_num.specs.declared.ctx.Layout.{Layout}
use Rattle.deku_num.specs.declared.kind.NumberType.{NumberType}
use Rattle.deku_num.specs.Numbers.{width, value, IsAllowed}

-- The number of the first n bits of n + m bits that have this number.
abbrev pub front : Order → ℕ → ℕ → ℕ → ℕ
front Msb0 k n m = k / 2 ^ m
front Lsb0 k n m = k % 2 ^ n

-- The number of the m bits after them.
abbrev pub behind : Order → ℕ → ℕ → ℕ → ℕ
behind Msb0 k n m = k % 2 ^ m
behind Lsb0 k n m = k / 2 ^ n

-- The first n of `room` bits, which have the number `word` in this order, are a field with the
-- value v.
pub record IsCutValue (t : NumberType) (l : Layout) (o : Order) (word room : ℕ) (v : ℤ) (n : ℕ) : Type 0 where
  pub some : 0 < n
  pub within : n ≤ room
  pub wide : n ≡ width t l
  pub order : l.order ≡ o
  pub ok : IsAllowed t l
  pub worth : v ≡ value t l (facing o (bits_of n (front o word n (room - n))))
