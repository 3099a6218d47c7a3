-- What prevents a record from being shown: the bytes that it is read from, what it is written as,
-- or the memory.
use Rattle.std.specs.Prelude.{◌≡◌, ◌⊎◌, ℕ, List, Option, Err}
use Rattle.std.specs.Borrow.{Bor}
use Rattle.std.specs.declared.io.ErrorKind.TheVariants.{OutOfMemory}
use Rattle.deku_bits.specs.declared.error.DekuError.{DekuError}
use Rattle.deku_bits.specs.declared.error.DekuError.TheVariants.{Io}
use Rattle.deku_bits.specs.Streams.{Stream}
use Rattle.deku_bits.specs.Pieces.{Piece}
use Rattle.deku_bits.specs.Standings.{Standing, Output, count_of}
use Rattle.deku_bits.specs.Outcomes.{Meaning}
use Rattle.deku_bits.specs.WriterCalls.{Finalizes}
use Rattle.deku.specs.Composing.{Both}
use Rattle.deku.specs.Wholes.{FromFirst, WritesOnce}
use Rattle.deku_pieces.specs.Packs.{WasTaken, Unpacks}
use Rattle.deku_formats_program.specs.declared.program.Failure.{Failure}
use Rattle.deku_formats_program.specs.declared.program.Failure.TheVariants.{Fault, Refused}

-- The meaning of a record gives this error from the bytes, when this many bits are counted.
pub record IsRefused {V : Type 0} (reads : Meaning (Option Stream) V) (bytes : List ℕ) (e : Failure) : Type 0 where
  pub fault : DekuError
  pub left : Standing (Option Stream)
  pub refused : FromFirst reads bytes (Err fault) left
  pub field : Bor (List ℕ)
  pub is : e ≡ Refused fault field (count_of left)

-- The meaning gives this error from the bytes, and reading them once more does not.
pub record IsRefusedOnce {V : Type 0} (reads : Meaning (Option Stream) V) (bytes : List ℕ) (e : Failure) : Type 0 where
  pub fault : DekuError
  pub refused : Unpacks reads bytes (Err fault)
  pub is : e ≡ Fault fault

-- A value was taken from the bytes, and fails with this error when it is written.
pub record IsNotWritten {V : Type 0} (pieces : V → List Piece → Type 0) (writes : V → Meaning Output (Unit {0})) (bytes : List ℕ) (e : Failure) : Type 0 where
  pub value : V
  pub bits : ℕ
  pub taken : WasTaken pieces bytes bits value
  pub fault : DekuError
  pub refused : WritesOnce (Both (writes value) Finalizes) (Err fault)
  pub is : e ≡ Fault fault

-- Reading the bytes or writing the record fails, or there is no memory.
abbrev pub StopsOf : {V : Type 0} → Meaning (Option Stream) V → (V → List Piece → Type 0) → (V → Meaning Output (Unit {0})) → List ℕ → Failure → Type 0
StopsOf reads pieces writes bytes e = IsRefused reads bytes e ⊎ IsRefusedOnce reads bytes e ⊎ IsNotWritten pieces writes bytes e ⊎ (e ≡ Fault (Io OutOfMemory))

-- Bytes, and what prevents the record at their start from being shown.
abbrev pub Stopping : Type 1
Stopping = List ℕ → Failure → Type 0
