-- Worked examples of vectors of numbers that are written.
use Rattle.std.specs.Prelude.{[], ◌∷◌, pos}
use Rattle.deku_num.specs.declared.ctx.Size.TheVariants.{Bits}
use Rattle.deku_num.specs.Numbers.{byte}
use Rattle.deku_num.specs.NumberCalls.{WritesNumber}
use Rattle.deku_num.specs.Rows.{big_msb}
use Rattle.deku_writing.specs.Composing.{WritesEach}
use Rattle.deku.specs.VectorLaws.{GivesBytes}

-- Vectors, as bytes.
pub record VectorRows : Type 0 where
  -- Two halves of a byte.
  pub halves : GivesBytes (WritesEach (WritesNumber byte (big_msb (Bits 4))) (pos 6 ∷ pos 9 ∷ [])) (0x69 ∷ [])
  -- Three bits, which are padded.
  pub three_bits : GivesBytes (WritesEach (WritesNumber byte (big_msb (Bits 3))) (pos 5 ∷ [])) (0xA0 ∷ [])
