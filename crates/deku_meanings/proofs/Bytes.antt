-- A byte under a layout of its whole size.
use Rattle.std.proofs.Common.{◌≡◌, ℕ, ◌<◌, pos, refl, sym, ap, ◌∙◌, arith}
use Rattle.deku_bits.specs.declared.ctx.Order.TheVariants.{Msb0}
use Rattle.deku_bits.specs.Bits.{byte_bits}
use Rattle.deku_bits.proofs.Cuts.{byte-of, length-byte_bits}
use Rattle.deku_bits.proofs.Words.{word_of-short}
use Rattle.deku_num.specs.declared.ctx.Endian.{Endian}
use Rattle.deku_num.specs.declared.ctx.Endian.TheVariants.{Little, Big}
use Rattle.deku_num.specs.declared.ctx.Size.TheVariants.{Whole}
use Rattle.deku_num.specs.declared.ctx.Layout.{Layout}
use Rattle.deku_num.specs.Numbers.{byte, width, number, value, IsAllowed, IsFieldOf}

module _ (l : Layout) (high : l.order ≡ Msb0) (whole : l.size ≡ Whole) where
  byte_worth : (b : ℕ) → b < 256 → value byte l (byte_bits b) ≡ pos b
  unfolding value number
  byte_worth b small = ap pos (worth l.endian)
    where
      worth : (e : Endian) → number e l.order (byte_bits b) ≡ b
      worth Little = rw high (word_of-short Msb0 (byte_bits b) (omega (arith, length-byte_bits b)) ∙ byte-of Msb0 b small)
      worth Big = rw high (byte-of Msb0 b small)

  pub byte_wide : width byte l ≡ 8
  byte_wide = rw whole refl

  -- the layout is not rejected
  pub byte_allowed : IsAllowed byte l
  byte_allowed = record { within = omega (arith, byte_wide); even = refl }

  -- a byte is the value of its bits
  pub byte_field : (b : ℕ) → b < 256 → IsFieldOf byte l (pos b) (byte_bits b)
  byte_field b small = record { wide = length-byte_bits b ∙ sym byte_wide; worth = byte_worth b small }
