-- Records from bytes, with errors that name a part.
use Rattle.std.specs.Prelude.{◌≡◌, ℕ, false, List, Option, Some, Result, Ok, Err, slice_get}
use Rattle.std.specs.Borrow.{Bor}
use Rattle.deku_bits.specs.declared.error.DekuError.{DekuError}
use Rattle.deku_bits.specs.Streams.{Stream, fresh}
use Rattle.deku_bits.specs.Standings.{Standing, Going}
use Rattle.deku_located.specs.declared.steps.Place.{Place}
use Rattle.deku_located.specs.declared.located.Located.{Located}
use Rattle.deku_located.specs.Placed.{Placed}

-- The same without the place of an error.
abbrev pub unplaced : {V : Type 0} → Result V Located → Result V DekuError
unplaced (Ok v) = Ok v
unplaced (Err e) = Err e.error

-- From the first of the bytes on, the parts before the one of this name are read; that one begins
-- at this bit, and is refused with this error.
pub record IsLocated {V : Type 0} (placed : Placed V) (names : List (Bor (List ℕ))) (bytes : List ℕ) (e : Located) : Type 0 where
  pub place : Place
  pub left : Standing (Option Stream)
  pub refused : placed 0 place false (Going (Some (fresh bytes)) 0) (Err e.error) left
  pub field : slice_get names place.parts ≡ Some e.field
  pub bit : e.bit ≡ place.bit
