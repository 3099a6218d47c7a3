-- Symmetric items, written one after the other and read with a count of them.
use Rattle.std.specs.Prelude.{ℕ, List, Option, Result}
use Rattle.deku_bits.specs.declared.error.DekuError.{DekuError}
use Rattle.deku_bits.specs.Streams.{Stream}
use Rattle.deku_bits.specs.Pieces.{Piece}
use Rattle.deku_bits.specs.Standings.{Output}
use Rattle.deku_bits.specs.Outcomes.{Meaning}
use Rattle.deku.specs.Composing.{WritesEach}
use Rattle.deku.specs.Limits.{ReadsCount}
use Rattle.deku_pieces.specs.Symmetric.{IsSymmetric}
use Rattle.deku_pieces.specs.Pieces.{OfEach, OfTimes, SameEach}
use Rattle.deku_pieces.specs.Packs.{Unpacks, UnpacksBack, ToBytesLaw}

-- From bytes that begin with what the aligned pieces of a value lay out, whatever follows, a read
-- returns that value and the width of its pieces. The only other result is out of memory.
abbrev pub UnpackLaw : {V : Type 0} → (V → List Piece → Type 0) → (V → V → Type 0) → Meaning (Option Stream) V → Type 0
UnpackLaw {V} pieces same reads = (bytes : List ℕ) (r : Result (ℕ × V) DekuError) → Unpacks reads bytes r → UnpacksBack pieces same bytes r

-- A list of symmetric items that is read with a count of n, and written one item after the other,
-- is symmetric.
abbrev pub CountedLaw : {V : Type 0} → (V → List Piece → Type 0) → (V → V → Type 0) → (V → Meaning Output (Unit {0})) → Meaning (Option Stream) V → Type 0
CountedLaw pieces same writes reads = (n : ℕ) → IsSymmetric (OfTimes n pieces) (SameEach same) (WritesEach writes) (ReadsCount n reads)

-- Items that are written one after the other from nothing, and padded once, give what their aligned
-- pieces lay out, or memory runs out.
abbrev pub EachToBytesLaw : {V : Type 0} → (V → List Piece → Type 0) → (V → Meaning Output (Unit {0})) → Type 0
EachToBytesLaw pieces writes = ToBytesLaw (OfEach pieces) (WritesEach writes)

-- From bytes that begin with what the aligned pieces of n items lay out, whatever follows, a read
-- with a count of n returns the same items, or memory runs out.
abbrev pub CountedUnpackLaw : {V : Type 0} → (V → List Piece → Type 0) → (V → V → Type 0) → Meaning (Option Stream) V → Type 0
CountedUnpackLaw pieces same reads = (n : ℕ) → UnpackLaw (OfTimes n pieces) (SameEach same) (ReadsCount n reads)
