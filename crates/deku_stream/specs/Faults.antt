-- Kept faults, and the texts of errors.
use Rattle.std.specs.Prelude.{◌≡◌, ℕ, List}
use Rattle.std.specs.Borrow.{Bor}
use Rattle.std.specs.declared.io.ErrorKind.{ErrorKind}
use Rattle.std.specs.declared.io.ErrorKind.TheVariants.{UnexpectedEof, InvalidData, InvalidInput, NotFound}
use Rattle.deku_stream.specs.declared.error.DekuError.{DekuError}
use Rattle.deku_stream.specs.declared.error.DekuError.TheVariants as error
use Rattle.deku_stream.specs.declared.error.Fault.{Fault}
use Rattle.deku_stream.specs.declared.error.Fault.TheVariants as fault

-- A kept fault as an error.
abbrev pub error_of : Fault → DekuError
error_of (fault.Incomplete need) = error.Incomplete need
error_of (fault.Io kind) = error.Io kind

-- The error has this text.
pub record Tells (refusal : Bor (List ℕ) → DekuError) (text : List ℕ) (e : DekuError) : Type 0 where
  pub words : Bor (List ℕ)
  pub says : words.now ≡ text
  pub is : e ≡ refusal words

-- The matching kind of io error.
abbrev pub kind_of : DekuError → ErrorKind
kind_of (error.Incomplete need) = UnexpectedEof
kind_of (error.Parse text) = InvalidData
kind_of (error.InvalidParam text) = InvalidInput
kind_of (error.Assertion text) = InvalidData
kind_of error.IdVariantNotFound = NotFound
kind_of (error.Io kind) = kind
