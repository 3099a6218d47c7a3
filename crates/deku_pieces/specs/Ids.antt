-- Values that an id chooses: some kinds of values have the id, and others do not.
use Rattle.std.specs.Prelude.{◌≡◌, ◌⊎◌, ℕ, nat_le, Bool, true, false, ◌&&◌, not, List, codes, Option, Err}
use Rattle.deku_bits.specs.declared.error.DekuError.TheVariants.{IdVariantNotFound, Assertion}
use Rattle.deku_bits.specs.Pieces.{Piece}
use Rattle.deku_bits.specs.Outcomes.{Meaning, Mapped, Refuses}
use Rattle.deku_bits.specs.Streams.{Stream}
use Rattle.deku_bits.specs.Standings.{Output}
use Rattle.deku.specs.Composing.{Then, Both}
use Rattle.deku_pieces.specs.Pieces.{InTurn}
use Rattle.deku_num.specs.NumberCalls.{Checked}
use Rattle.deku_pieces.specs.declared.either.Either.{Either}
use Rattle.deku_pieces.specs.declared.either.Either.TheVariants.{This, Other}

-- ---- ids
-- Whether an id is one of those from low to high.
abbrev pub in_range : ℕ → ℕ → ℕ → Bool
in_range low high id = nat_le low id && nat_le id high

-- The id of a value of one of two kinds.
abbrev pub id_of_either : {V W : Type 0} → (V → ℕ) → (W → ℕ) → Either V W → ℕ
id_of_either id_this id_other (This v) = id_this v
id_of_either id_this id_other (Other w) = id_other w

-- Whether the id of a value chooses its kind. It does not choose the second kind if the first one
-- has it.
abbrev pub is_own : {V W : Type 0} → (ℕ → Bool) → (V → Bool) → (W → Bool) → (W → ℕ) → Either V W → Bool
is_own known own_this own_other id_other (This v) = own_this v
is_own known own_this own_other id_other (Other w) = own_other w && not (known (id_other w))

-- ---- pieces
-- The pieces of a value under an id: it has some under its own id only, if that chooses its kind.
abbrev pub UnderOwn : {V : Type 0} → (V → ℕ) → (V → Bool) → (V → List Piece → Type 0) → ℕ → V → List Piece → Type 0
UnderOwn id_of own pieces id v ps = (id ≡ id_of v) × (own v ≡ true) × pieces v ps

-- The pieces of a value of one of two kinds.
abbrev pub OfEither : {V W : Type 0} → (V → List Piece → Type 0) → (W → List Piece → Type 0) → Either V W → List Piece → Type 0
OfEither of_this of_other (This v) = of_this v
OfEither of_this of_other (Other w) = of_other w

-- The pieces of an id, and then of the value that it chooses.
abbrev pub OfEnum : {V : Type 0} → (ℕ → List Piece → Type 0) → (V → ℕ) → (V → Bool) → (V → List Piece → Type 0) → V → List Piece → Type 0
OfEnum of_id id_of own pieces v = InTurn (of_id (id_of v)) (λ ps. (own v ≡ true) × pieces v ps)

-- The same values, of the same kind.
abbrev pub SameEither : {V W : Type 0} → (V → V → Type 0) → (W → W → Type 0) → Either V W → Either V W → Type 0
SameEither same_this same_other (This v) (This w) = same_this v w
SameEither same_this same_other (Other v) (Other w) = same_other v w
SameEither same_this same_other _ _ = ⊥

-- ---- reading and writing
-- The meaning m if the id is known. Otherwise it fails, and nothing moves.
abbrev pub IfKnown : {A V : Type 0} → Bool → Meaning A V → Meaning A V
IfKnown known m = Checked (λ s r u. (known ≡ false) × (r ≡ Err IdVariantNotFound) × (u ≡ s)) (λ b s r u. (known ≡ true) × m b s r u)

-- The meaning m if the first kind knows the id, and otherwise k.
abbrev pub ReadsEither : {A V W : Type 0} → Bool → Meaning A V → Meaning A W → Meaning A (Either V W)
ReadsEither known m k b s r u = ((known ≡ true) × Mapped This m b s r u) ⊎ ((known ≡ false) × Mapped Other k b s r u)

-- The value of one of two kinds is written.
abbrev pub WritesEither : {V W : Type 0} → (V → Meaning Output (Unit {0})) → (W → Meaning Output (Unit {0})) → Either V W → Meaning Output (Unit {0})
WritesEither write_this write_other (This v) = write_this v
WritesEither write_this write_other (Other w) = write_other w

-- An id is read, and then the value that its number chooses.
abbrev pub ReadsEnum : {I V X : Type 0} → (V → X) → (I → ℕ) → Meaning (Option Stream) I → (ℕ → Meaning (Option Stream) V) → Meaning (Option Stream) X
ReadsEnum made number_of m reads = Then m (λ i. Mapped made (reads (number_of i)))

-- An id is written, and then its value. If the id chooses another kind, it fails before that, and
-- nothing moves.
abbrev pub WritesEnum : {V : Type 0} → (ℕ → Meaning Output (Unit {0})) → (V → ℕ) → (V → Bool) → (V → Meaning Output (Unit {0})) → V → Meaning Output (Unit {0})
WritesEnum write_id id_of own writes v = Checked
    (λ s r u. (own v ≡ false) × Refuses Assertion (codes "kind out of step with its id") s r u)
    (λ b s r u. (own v ≡ true) × Both (write_id (id_of v)) (writes v) b s r u)
