-- What is written as exactly this many bits.
use Rattle.std.specs.Prelude.{◌≡◌, ℕ, Bool, List, [], ◌∷◌, map, Option, Some, Result, ℤ}
use Rattle.deku_bits.specs.declared.error.DekuError.{DekuError}
use Rattle.deku_bits.specs.Bits.{shown}
use Rattle.deku_bits.specs.Pieces.{Piece, shape, total}
use Rattle.deku_bits.specs.Standings.{Standing, Output}
use Rattle.deku_bits.specs.Outcomes.{Meaning}
use Rattle.deku_bits.specs.WriterCalls.{WritesBits}
use Rattle.deku_num.specs.declared.kind.NumberType.{NumberType}
use Rattle.deku_num.specs.declared.ctx.Layout.{Layout}
use Rattle.deku_num.specs.NumberLaws.{InType}
use Rattle.deku_num.specs.NumberCalls.{WritesNumber, IsWhole}
use Rattle.deku_num.specs.Sizes.{within_usize}
use Rattle.deku_meanings.specs.Composing.{Answer, Both}

-- Pieces are written one after the other.
abbrev pub WritesPieces : List Piece → Meaning Output (Unit {0})
WritesPieces [] = Answer tt
WritesPieces (p ∷ ps) = Both (WritesBits p.order (shown p.order p.bits)) (WritesPieces ps)

-- m writes exactly n bits: whatever it returns and leaves, writing some pieces of n bits returns
-- and leaves too.
pub record IsSized (n : ℕ) (m : Meaning Output (Unit {0})) : Type 0 where
  pub pieces : List Piece
  pub wide : total (map shape pieces) ≡ n
  pub written : (b : Bool) (s : Standing Output) (r : Result (Unit {0}) DekuError) (u : Standing Output) → m b s r u → WritesPieces pieces b s r u

-- A value under a layout of its type's whole size is written as exactly the bits of its type.
abbrev pub NumberSizeLaw : Type 0
NumberSizeLaw = (t : NumberType) (l : Layout) (v : ℤ) → IsWhole t l v → IsSized t.bits (WritesNumber t l v)

-- If a call returns n as the size of a type, m writes exactly n bits.
pub record KeepsSize (size : Option ℕ) (m : Meaning Output (Unit {0})) : Type 0 where
  pub answered : (n : ℕ) → within_usize size ≡ Some n → IsSized n m

-- Each value of a number type, which h turns into an integer, is written as exactly the bits of its
-- size.
abbrev pub NumbersKeepSize : {V : Type 0} → NumberType → (V → ℤ) → Option ℕ → (V → Meaning Output (Unit {0})) → Type 0
NumbersKeepSize {V} t h size writes = (v : V) → InType t.signed t.bits (h v) → KeepsSize size (writes v)
