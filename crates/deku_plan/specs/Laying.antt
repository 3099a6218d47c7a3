-- Values that are laid into bytes in memory, each with its high bit first.
use Rattle.std.specs.Prelude.{◌≡◌, ℕ, zero, suc, ◌+◌, ◌<◌, ◌≤◌, ◌^◌, ◌*◌, Bool, List, [], ◌∷◌, ◌++◌, take}
use Rattle.std.specs.List.{AllZip}
use Rattle.deku_bits.specs.Bits.{bits_of, bits_in}
use Rattle.deku_fields.specs.declared.list.Number.{Number}
use Rattle.deku_fields.specs.declared.list.Number.TheVariants.{Unsigned, Signed}
use Rattle.deku_plan.specs.declared.step.Step.{Step}
use Rattle.deku_plan.specs.declared.lay.Laid.{Laid}

-- ---- steps and values
-- A step of at most 57 bits, with its mask.
pub record IsShort (s : Step) : Type 0 where
  pub few : s.width ≤ 57
  pub mask : s.mask + 1 ≡ 2 ^ s.width

-- The steps of this many records, one after the other.
abbrev pub turns : ℕ → List Step → List Step
turns zero steps = []
turns (suc n) steps = steps ++ turns n steps

-- An unsigned value of at most w bits.
abbrev pub HasBits : ℕ → Number → Type 0
HasBits w (Unsigned n) = n < 2 ^ w
HasBits w (Signed z) = ⊥

-- Each value has at most the bits of its step.
abbrev pub AreFitting : List Step → List Number → Type 0
AreFitting steps ns = AllZip (λ s n. HasBits s.width n) steps ns

-- The w bits of an unsigned value, the high bit first.
abbrev pub value_bits : ℕ → Number → List Bool
value_bits w (Unsigned n) = bits_of w n
value_bits w (Signed z) = []

-- The bits of values, one value after the other.
abbrev pub row_bits : List Step → List Number → List Bool
row_bits (s ∷ steps) (n ∷ ns) = value_bits s.width n ++ row_bits steps ns
row_bits _ _ = []

-- ---- what is laid
-- The held bits are at most 64, and the word has no others.
pub record IsHeld (l : Laid) : Type 0 where
  pub few : l.held ≤ 64
  pub below : l.word < 2 ^ l.held

-- How many bits are laid.
abbrev pub laid_count : Laid → ℕ
laid_count l = 8 * l.place + l.held

-- The bits that are laid: those of the bytes before the place, and the held ones.
abbrev pub laid_bits : List ℕ → Laid → List Bool
laid_bits bytes l = bits_in (take l.place bytes) ++ bits_of l.held l.word
