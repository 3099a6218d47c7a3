-- Pieces written one after the other, and pieces taken one after the other: the two directions, and
-- their laws.
use Rattle.std.specs.Prelude.{ℕ, ◌-◌, ◌<◌, ◌≡◌, List, [], ◌∷◌, ◌++◌, length, map, take, All}
use Rattle.deku_stream.specs.declared.ctx.Order.TheVariants.{Msb0}
use Rattle.deku_stream.specs.Bits.{shown}
use Rattle.deku_stream.specs.Streams.{Stream, Has, taken, left, fresh}
use Rattle.deku_stream.specs.Pieces.{Piece, Aligned, shape, laid_out, last_order, cleared}
use Rattle.deku_stream.specs.Writers.{Pending, Nothing, Written, append, padded}

-- One call and then another: the bytes of both, and what the second leaves pending.
abbrev pub followed : Written → (Pending → Written) → Written
followed first next =
    let second : Written = next first.pending in
    record { bytes = first.bytes ++ second.bytes; pending = second.pending }

-- Pieces written one after the other.
unfoldable pub appended : List Piece → Pending → Written
appended [] P = record { bytes = []; pending = P }
appended (p ∷ ps) P = followed (append p.order (shown p.order p.bits) P) (appended ps)

-- The bytes of pieces that are written one after the other from nothing, and padded once.
abbrev pub packed : List Piece → List ℕ
packed ps = (appended ps Nothing).bytes ++ padded (appended ps Nothing).pending

-- Pieces that are taken from a stream, one after the other, and the stream that is left.
abbrev pub Takes : List Piece → Stream → Stream → Type 0
Takes [] S T = S ≡ T
Takes (p ∷ ps) S T = Has (length p.bits) S × (taken p.order (length p.bits) S ≡ p.bits) × Takes ps (left p.order (length p.bits) S) T

-- Aligned pieces, written one after the other and padded once, are the bytes that they lay out.
abbrev pub WriteLaw : Type 0
WriteLaw = (ps : List Piece) → Aligned (map shape ps) → packed ps ≡ laid_out ps

-- From bytes that begin with what aligned pieces lay out, the pieces are taken, and the bytes after
-- them are left.
abbrev pub ReadLaw : Type 0
ReadLaw = (ps : List Piece) (after : List ℕ) → Aligned (map shape ps)
    → (T : Stream) × Takes ps (fresh (laid_out ps ++ after)) T × (T.bytes ≡ after)

-- Aligned pieces that were taken from bytes lay out the bytes that were taken, with those bits of
-- the last byte zero that were not taken.
abbrev pub RewriteLaw : Type 0
RewriteLaw = (ps : List Piece) (bytes : List ℕ) (T : Stream) → Aligned (map shape ps) → All (λ b. b < 256) bytes → Takes ps (fresh bytes) T
    → laid_out ps ≡ cleared (last_order Msb0 (map shape ps)) (length T.window) (take (length bytes - length T.bytes) bytes)

-- Pieces may be written in two calls.
abbrev pub CallsLaw : Type 0
CallsLaw = (ps qs : List Piece) (P : Pending) → appended (ps ++ qs) P ≡ followed (appended ps P) (appended qs)
