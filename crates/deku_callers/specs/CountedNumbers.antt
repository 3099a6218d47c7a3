-- Numbers after a byte that counts them.
use Rattle.std.specs.Prelude.{◌≡◌, ℕ, ◌<◌, List, ◌∷◌, length, MatchResult, Result}
use Rattle.std.specs.Global.{Vec}
use Rattle.std.specs.declared.io.ErrorKind.TheVariants.{OutOfMemory}
use Rattle.deku_bits.specs.declared.error.DekuError.{DekuError}
use Rattle.deku_bits.specs.declared.error.DekuError.TheVariants.{Io}
use Rattle.deku_bits.specs.Pieces.{Piece, laid_out}
use Rattle.deku_num.specs.declared.ctx.Size.TheVariants.{Whole}
use Rattle.deku_num.specs.Numbers.{unsigned}
use Rattle.deku_symmetry.specs.Pieces.{OfUnsigned, OfEach, high_first}

-- These bytes are numbers of 16 bits, the high byte of each first.
abbrev pub AreBytesOf : List ℕ → List ℕ → Type 0
AreBytesOf ns bytes = (ps : List Piece) × OfEach (OfUnsigned (unsigned 16) (high_first Whole)) ns ps × (bytes ≡ laid_out ps)

-- A byte that counts numbers, and the bytes of the numbers after it.
pub record IsRecordOf (ns : List ℕ) (bytes : List ℕ) : Type 0 where
  pub behind : List ℕ
  pub numbers : AreBytesOf ns behind
  pub is : bytes ≡ length ns ∷ behind

-- From a byte that counts numbers, and the numbers after it, the numbers are read; or memory runs
-- out.
abbrev pub ReadsRecord : List ℕ → Result (Vec ℕ) DekuError → Type 0
ReadsRecord bytes r = (ns : List ℕ) → length ns < 256 → IsRecordOf ns bytes → MatchResult r (λ v. v.items ≡ ns) (λ e. e ≡ Io OutOfMemory)
