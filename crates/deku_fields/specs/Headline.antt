-- Reading and writing lists of fields are symmetric: the laws.
use Rattle.std.specs.Prelude.{ℕ, ◌-◌, ◌<◌, ◌≡◌, ◌↔◌, List, ◌++◌, length, map, take, All}
use Rattle.deku_bits.specs.declared.ctx.Order.TheVariants.{Msb0}
use Rattle.deku_bits.specs.Streams.{Stream, fresh}
use Rattle.deku_bits.specs.Pieces.{Piece, laid_out, last_order, cleared}
use Rattle.deku_bits.specs.Symmetry.{packed}
use Rattle.deku_fields.specs.declared.list.Number.{Number}
use Rattle.deku_fields.specs.declared.list.Field.{Field}
use Rattle.deku_fields.specs.declared.list.Item.{Item}
use Rattle.deku_fields.specs.Items.{IsFitting, ArePieces, LaysOut, AlignedFields, ReadsValues, field_shape, fields_of, values_of}

-- Fitting items have exactly one list of pieces.
abbrev pub PieceLaw : Type 0
PieceLaw = (items : List Item) → All IsFitting items
    → (ps : List Piece) × ArePieces items ps × ((qs : List Piece) → ArePieces items qs → qs ≡ ps)

-- Fitting items lay out exactly one list of bytes.
abbrev pub LayoutLaw : Type 0
LayoutLaw = (items : List Item) → All IsFitting items
    → (bytes : List ℕ) × LaysOut items bytes × ((other : List ℕ) → LaysOut items other → other ≡ bytes)

-- The pieces of aligned fitting items, written one after the other and padded once, are what the
-- items lay out. From bytes that begin with it the fields read the values and leave the bytes after
-- it, and they read nothing else.
abbrev pub ThereLaw : Type 0
ThereLaw = (items : List Item) (ps : List Piece) → All IsFitting items → AlignedFields (fields_of items) → ArePieces items ps
    → (packed ps ≡ laid_out ps)
    × ((after : List ℕ) → (T : Stream) × ReadsValues (fields_of items) (fresh (laid_out ps ++ after)) (values_of items) T × (T.bytes ≡ after)
    × ((ns : List Number) (U : Stream) → ReadsValues (fields_of items) (fresh (laid_out ps ++ after)) ns U → (ns ≡ values_of items) × (U ≡ T)))

-- What the fields of aligned items read from bytes has pieces. These lay out the bytes that were
-- taken, with the unread bits zero.
abbrev pub BackLaw : Type 0
BackLaw = (items : List Item) (bytes : List ℕ) (T : Stream) → AlignedFields (fields_of items) → All (λ b. b < 256) bytes
    → ReadsValues (fields_of items) (fresh bytes) (values_of items) T
    → (ps : List Piece) × ArePieces items ps
    × (laid_out ps ≡ cleared (last_order Msb0 (map field_shape (fields_of items))) (length T.window) (take (length bytes - length T.bytes) bytes))

-- Fields may be read in two calls.
abbrev pub CallsLaw : Type 0
CallsLaw = (fs gs : List Field) (ns ms : List Number) (S T : Stream) → length ns ≡ length fs
    → (ReadsValues (fs ++ gs) S (ns ++ ms) T ↔ ((U : Stream) × ReadsValues fs S ns U × ReadsValues gs U ms T))
