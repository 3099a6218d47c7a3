-- Values that depend on a head: under a context that it says, or of a kind that an id in it chooses.
use Rattle.std.specs.Prelude.{◌≡◌, ℕ, Bool, true, List, codes, Option}
use Rattle.deku_bits.specs.declared.error.DekuError.TheVariants.{Assertion}
use Rattle.deku_bits.specs.Pieces.{Piece}
use Rattle.deku_bits.specs.Streams.{Stream}
use Rattle.deku_bits.specs.Standings.{Output}
use Rattle.deku_bits.specs.Outcomes.{Meaning, Refuses, Mapped}
use Rattle.deku_num.specs.NumberCalls.{Checked}
use Rattle.deku.specs.Composing.{Then, Both}
use Rattle.deku_pieces.specs.Pieces.{InTurn}
use Rattle.deku_pieces.specs.Ids.{UnderOwn}

-- A head is read, and then a value under what `index` says of the head.
abbrev pub ReadsUnderHead : {I V W X : Type 0} → (V → W → X) → (V → I) → Meaning (Option Stream) V → (I → Meaning (Option Stream) W) → Meaning (Option Stream) X
ReadsUnderHead made index m k = Then m (λ h. Mapped (made h) (k (index h)))

-- ---- a kind that a head chooses
-- The value is of a kind that this id chooses.
abbrev pub IsOfId : {V : Type 0} → (V → ℕ) → (V → Bool) → ℕ → V → Type 0
IsOfId id_of own id v = (id ≡ id_of v) × (own v ≡ true)

-- The pieces of the head, and then of a value of the kind that its id chooses.
abbrev pub OfChosen : {V W : Type 0} → (V → ℕ) → (W → ℕ) → (W → Bool) → (V → List Piece → Type 0) → (W → List Piece → Type 0) → V → W → List Piece → Type 0
OfChosen id_in id_of own of_head of_kind h k = InTurn (of_head h) (UnderOwn id_of own of_kind (id_in h) k)

-- A head is written, and then the value. If the head's id chooses another kind, it fails before
-- that, and nothing moves.
abbrev pub WritesChosenBy : {V W : Type 0} → (V → ℕ) → (W → ℕ) → (W → Bool) → (V → Meaning Output (Unit {0})) → (W → Meaning Output (Unit {0})) → V → W → Meaning Output (Unit {0})
WritesChosenBy id_in id_of own write_head write_kind h k = Checked
    (λ s r u. (IsOfId id_of own (id_in h) k → ⊥) × Refuses Assertion (codes "kind out of step with its id") s r u)
    (λ b s r u. IsOfId id_of own (id_in h) k × Both (write_head h) (write_kind k) b s r u)
