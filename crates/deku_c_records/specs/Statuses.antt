-- The numbers that C gets for what happened.
use Rattle.std.specs.Prelude.{ℕ, Result, Ok, Err}
use Rattle.deku_bits.specs.declared.error.DekuError.{DekuError}
use Rattle.deku_bits.specs.declared.error.DekuError.TheVariants.{Incomplete, Parse, InvalidParam, Assertion, IdVariantNotFound, Io}

-- The number of an error.
abbrev pub status_of : DekuError → ℕ
status_of (Incomplete need) = 3
status_of (Parse text) = 4
status_of (InvalidParam text) = 5
status_of (Assertion text) = 6
status_of IdVariantNotFound = 7
status_of (Io kind) = 8

-- The number of a result: 0 for a value.
abbrev pub status_in : {V : Type 0} → Result V DekuError → ℕ
status_in (Ok v) = 0
status_in (Err e) = status_of e
