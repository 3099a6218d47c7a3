-- Bytes that are given as hexadecimal text.
use Rattle.std.specs.Prelude.{◌≡◌, ◌⊎◌, ℕ, List, Ok, Err}
use Rattle.std.specs.declared.io.ErrorKind.{ErrorKind}
use Rattle.hex.specs.Hex.{decode_of}
use Rattle.hex.specs.declared.error.FromHexError.{FromHexError}
use Rattle.deku_bits.specs.declared.error.DekuError.{DekuError}
use Rattle.deku_bits.specs.declared.error.DekuError.TheVariants.{Io}
use Rattle.deku_program.specs.Texts.{line}

-- The inner text is the text without one newline at its end, if it has one.
abbrev pub LosesNewline : List ℕ → List ℕ → Type 0
LosesNewline text inner = (text ≡ line inner) ⊎ ((text ≡ inner) × ((front : List ℕ) → text ≡ line front → ⊥))

-- The text is the hexadecimal form of the bytes.
pub record IsHexText (text bytes : List ℕ) : Type 0 where
  pub digits : List ℕ
  pub trimmed : LosesNewline text digits
  pub decoded : decode_of digits ≡ Ok bytes

-- The text is not the hexadecimal form of any bytes.
pub record IsNoHexText (text : List ℕ) : Type 0 where
  pub digits : List ℕ
  pub trimmed : LosesNewline text digits
  pub error : FromHexError
  pub refused : decode_of digits ≡ Err error

-- An error of the input, or of the memory.
abbrev pub IsOfInput : DekuError → Type 0
IsOfInput e = (kind : ErrorKind) × (e ≡ Io kind)
