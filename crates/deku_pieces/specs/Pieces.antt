-- The pieces of the values of each type.
use Rattle.std.specs.Prelude.{◌≡◌, ◌<◌, ℕ, Bool, List, [], ◌∷◌, ◌++◌, length, map, Option, None, Some, ⊤, ℤ, pos}
use Rattle.deku_bits.specs.Pieces.{Piece, piece, shape, total}
use Rattle.deku_num.specs.declared.kind.NumberType.{NumberType}
use Rattle.deku_num.specs.declared.ctx.Layout.{Layout}
use Rattle.deku_bits.specs.declared.ctx.Order.TheVariants.{Msb0}
use Rattle.deku_num.specs.declared.ctx.Endian.TheVariants.{Little, Big}
use Rattle.deku_num.specs.declared.ctx.Size.{Size}
use Rattle.deku_num.specs.declared.ctx.Size.TheVariants.{Whole}
use Rattle.deku_num.specs.Numbers.{byte, IsAllowed, IsFieldOf}
use Rattle.deku.specs.Texts.{NoZeros}

-- The piece of a number that fits, under a layout that is not rejected: one piece in the order of
-- the layout, of the bits that the number is laid out as.
abbrev pub OfNumber : NumberType → Layout → ℤ → List Piece → Type 0
OfNumber t l v ps = IsAllowed t l × ((bits : List Bool) × IsFieldOf t l v bits × (ps ≡ piece l.order bits ∷ []))

-- The piece of an unsigned number.
abbrev pub OfUnsigned : NumberType → Layout → ℕ → List Piece → Type 0
OfUnsigned t l n = OfNumber t l (pos n)

-- No pieces.
abbrev pub NoPieces : List Piece → Type 0
NoPieces ps = ps ≡ []

-- The pieces of one value, and then of another.
abbrev pub InTurn : (List Piece → Type 0) → (List Piece → Type 0) → List Piece → Type 0
InTurn first second ps = (xs : List Piece) × (ys : List Piece) × first xs × second ys × (ps ≡ xs ++ ys)

-- The pieces of the items, one after the other.
abbrev pub OfEach : {V : Type 0} → (V → List Piece → Type 0) → List V → List Piece → Type 0
OfEach pieces [] = NoPieces
OfEach pieces (v ∷ vs) = InTurn (pieces v) (OfEach pieces vs)

-- The pieces of items of at least one bit each, one after the other.
abbrev pub OfEachBroad : {V : Type 0} → (V → List Piece → Type 0) → List V → List Piece → Type 0
OfEachBroad pieces = OfEach (λ v ps. pieces v ps × (0 < total (map shape ps)))

-- The pieces of n items.
abbrev pub OfTimes : {V : Type 0} → ℕ → (V → List Piece → Type 0) → List V → List Piece → Type 0
OfTimes n pieces vs ps = (length vs ≡ n) × OfEach pieces vs ps

-- The pieces of the item, if there is one. Otherwise there are no pieces, not even an empty list of
-- them.
abbrev pub OfHeld : {V : Type 0} → (V → List Piece → Type 0) → Option V → List Piece → Type 0
OfHeld pieces None ps = ⊥
OfHeld pieces (Some v) ps = pieces v ps

-- The pieces of numbers, none of them zero, and of a zero after them.
abbrev pub OfTerminated : (ℕ → List Piece → Type 0) → List ℕ → List Piece → Type 0
OfTerminated pieces vs ps = NoZeros vs × OfEach pieces (vs ++ 0 ∷ []) ps

-- The layout of `()`.
abbrev pub plain : Layout
plain = record { endian = Little; order = Msb0; size = Whole }

-- The layout of big-endian numbers with their high bits first.
abbrev pub high_first : Size → Layout
high_first size = record { endian = Big; order = Msb0; size = size }

-- The pieces of the bytes of a text, and of the zero that ends it.
abbrev pub OfText : List ℕ → List Piece → Type 0
OfText = OfTerminated (OfUnsigned byte plain)

-- ---- the same values
-- Items that are the same, one by one.
abbrev pub SameEach : {V : Type 0} → (V → V → Type 0) → List V → List V → Type 0
SameEach same [] [] = ⊤
SameEach same (v ∷ vs) (w ∷ ws) = same v w × SameEach same vs ws
SameEach same _ _ = ⊥

-- The same item in both, or none in both.
abbrev pub SameHeld : {V : Type 0} → (V → V → Type 0) → Option V → Option V → Type 0
SameHeld same None None = ⊤
SameHeld same (Some v) (Some w) = same v w
SameHeld same _ _ = ⊥
