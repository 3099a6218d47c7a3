-- Pieces: lists of bits, each in one order; when they are aligned; and the bytes that they lay out.
use Rattle.std.specs.Prelude.{ℕ, zero, suc, ◌+◌, ◌-◌, ◌/◌, ◌%◌, ◌≡◌, ◌⊎◌, Bool, true, false, List, [], ◌∷◌, ◌++◌, length, map, flat_map, take, replicate, ⊤, if◌then◌else◌}
use Rattle.deku_stream.specs.declared.ctx.Order.{Order}
use Rattle.deku_stream.specs.declared.ctx.Order.TheVariants.{Msb0, Lsb0}
use Rattle.deku_stream.specs.Bits.{byte_bits, chunks, facing, group_number}

-- Bits that are written, or read, in one order.
pub record Piece : Type 0 where
  pub order : Order
  pub bits : List Bool

-- The piece of these bits in this order.
abbrev pub piece : Order → List Bool → Piece
piece o s = record { order = o; bits = s }

-- The order and the width of a piece.
abbrev pub shape : Piece → Order × ℕ
shape p = (p.order, length p.bits)

-- Whether two orders are the same.
abbrev pub same_order : Order → Order → Bool
same_order Msb0 Msb0 = true
same_order Lsb0 Lsb0 = true
same_order _ _ = false

-- From bit n on, after order o: a field that has a width and starts inside a byte has the order of
-- the last field before it that has a width.
abbrev pub AlignedFrom : ℕ → Order → List (Order × ℕ) → Type 0
AlignedFrom n o [] = ⊤
AlignedFrom n o (f ∷ fs) = elim f.1 [
  | zero ↦ AlignedFrom n o fs
  | suc w ↦ ((n % 8 ≡ 0) ⊎ (f.0 ≡ o)) × AlignedFrom (n + suc w) f.0 fs
]

-- The order changes only at byte boundaries.
abbrev pub Aligned : List (Order × ℕ) → Type 0
Aligned fs = AlignedFrom 0 Msb0 fs

-- All widths together.
abbrev pub total : List (Order × ℕ) → ℕ
total [] = 0
total (f ∷ fs) = f.1 + total fs

-- The order of the last one that has a width, or o.
abbrev pub last_order : Order → List (Order × ℕ) → Order
last_order o [] = o
last_order o (f ∷ fs) = elim f.1 [ zero ↦ last_order o fs | suc w ↦ last_order f.0 fs ]

-- One more piece before runs. An empty piece is dropped, and one of the first run's order joins
-- that run.
abbrev pub in_front : Order → List Bool → List Piece → List Piece
in_front o [] ps = ps
in_front o s [] = piece o s ∷ []
in_front o s (p ∷ ps) = if same_order o p.order
    then piece o (s ++ p.bits) ∷ ps
    else piece o s ∷ p ∷ ps

-- The longest runs of one order, with the bits of each joined.
abbrev pub runs : List Piece → List Piece
runs [] = []
runs (p ∷ ps) = in_front p.order p.bits (runs ps)

-- The bits with zeros at the end, up to eight.
abbrev pub filled : List Bool → List Bool
filled g = g ++ replicate (8 - length g) false

-- The bytes of a run: its groups of eight, the high bit first in `Msb0` and the low bit first in
-- `Lsb0`.
abbrev pub run_bytes : Piece → List ℕ
run_bytes p = map (λ g. group_number p.order (filled g)) (chunks p.bits)

-- The bytes that pieces lay out: those of their runs.
unfoldable pub laid_out : List Piece → List ℕ
laid_out ps = flat_map run_bytes (runs ps)

-- The bytes, with the last n bits of the last one zero, as an order takes them.
abbrev pub cleared : Order → ℕ → List ℕ → List ℕ
cleared o n [] = []
cleared o n (b ∷ []) = group_number o (filled (take (8 - n) (facing o (byte_bits b)))) ∷ []
cleared o n (b ∷ bs) = b ∷ cleared o n bs

-- Aligned pieces lay out as many bytes as their width divided by eight, rounded up.
abbrev pub LengthLaw : Type 0
LengthLaw = (ps : List Piece) → Aligned (map shape ps) → length (laid_out ps) ≡ (total (map shape ps) + 7) / 8
