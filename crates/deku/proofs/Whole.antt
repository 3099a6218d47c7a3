-- Numbers and truth values are written as exactly the bits of their types.
use Rattle.std.proofs.Common.{◌^◌, ◌<◌, Bool, true, false, List, [], ◌∷◌, Result, Ok, Err, refl, arith}
use Rattle.deku_bits.specs.declared.ctx.Order.{Order}
use Rattle.deku_bits.specs.declared.error.DekuError.{DekuError}
use Rattle.deku_bits.specs.Bits.{shown}
use Rattle.deku_bits.specs.Pieces.{piece}
use Rattle.deku_bits.specs.Standings.{Standing, Going, Stopped, Output}
use Rattle.deku_bits.specs.WriterCalls.{WritesBits}
use Rattle.deku_num.proofs.WholeTypes.{size_law}
use Rattle.deku_meanings.specs.Composing.{Answer, Answered, Both, Second, First}
use Rattle.deku_meanings.specs.Shapes.{numeral}
use Rattle.deku.specs.Extents.{NumberSizeLaw}

-- one write alone
pub alone : (o : Order) (bits : List Bool) (b : Bool) (s : Standing Output) (r : Result (Unit {0}) DekuError) (u : Standing Output)
    → WritesBits o bits b s r u → Both (WritesBits o bits) (Answer tt) b s r u
alone o bits b s (Err e) u p = First e p refl
alone o bits false s (Ok v) u p = Second v u p Answered
alone o bits true (Going a c) (Ok v) u p = let e = p.1 in absurd (cc)
alone o bits true (Stopped a e c) (Ok v) u p = absurd p

pub number_sized : NumberSizeLaw
number_sized t l v i =
    let law = size_law t l v i in
    record { pieces = piece l.order law.0 ∷ []; wide = omega (arith, law.1); written = λ b s r u m. alone l.order (shown l.order law.0) b s r u (law.2 b s r u m) }

pub below_byte : (v : Bool) → numeral v < 2 ^ 8
below_byte true = omega arith
below_byte false = omega arith
