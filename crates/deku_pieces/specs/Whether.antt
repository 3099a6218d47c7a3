-- Items that are there if a head says so.
use Rattle.std.specs.Prelude.{◌≡◌, Bool, true, false, List, codes, Option, None, Some, is_some}
use Rattle.deku_bits.specs.declared.error.DekuError.TheVariants.{Assertion}
use Rattle.deku_bits.specs.Pieces.{Piece}
use Rattle.deku_bits.specs.Streams.{Stream}
use Rattle.deku_bits.specs.Standings.{Output}
use Rattle.deku_bits.specs.Outcomes.{Meaning, Refuses, Mapped}
use Rattle.deku_num.specs.NumberCalls.{Checked}
use Rattle.deku.specs.Composing.{Answer, Then, Both}
use Rattle.deku.specs.Shapes.{IfHeld}
use Rattle.deku_pieces.specs.Pieces.{NoPieces, InTurn, OfHeld}

-- ---- pieces
-- No item has no bits.
abbrev pub OfAbsent : {V : Type 0} → Option V → List Piece → Type 0
OfAbsent v ps = (v ≡ None) × NoPieces ps

-- The pieces of the item if there has to be one, and otherwise those of no item.
abbrev pub OfWhether : {V : Type 0} → Bool → (V → List Piece → Type 0) → Option V → List Piece → Type 0
OfWhether true pieces = OfHeld pieces
OfWhether false pieces = OfAbsent

-- The pieces of the head, and then of the item that it shows.
abbrev pub OfShown : {V W : Type 0} → (V → Bool) → (V → List Piece → Type 0) → (W → List Piece → Type 0) → V → Option W → List Piece → Type 0
OfShown shows of_head of_item h x = InTurn (of_head h) (OfWhether (shows h) of_item x)

-- ---- reading and writing
-- An item is read if there has to be one.
abbrev pub ReadsWhether : {V : Type 0} → Bool → Meaning (Option Stream) V → Meaning (Option Stream) (Option V)
ReadsWhether true m = Mapped Some m
ReadsWhether false m = Answer None

-- A head is read, and then the item that it shows; they make one value.
abbrev pub ReadsShown : {V W X : Type 0} → (V → Option W → X) → (V → Bool) → Meaning (Option Stream) V → Meaning (Option Stream) W → Meaning (Option Stream) X
ReadsShown made shows m k = Then m (λ h. Mapped (made h) (ReadsWhether (shows h) k))

-- A head is written, and then its item. If there is an item and the head shows none, or the other
-- way round, it fails before that, and nothing moves.
abbrev pub WritesShown : {V W : Type 0} → (V → Bool) → (V → Meaning Output (Unit {0})) → (W → Meaning Output (Unit {0})) → V → Option W → Meaning Output (Unit {0})
WritesShown shows write_head write_item h x = Checked
    (λ s r u. (is_some x ≡ shows h → ⊥) × Refuses Assertion (codes "item out of step with its condition") s r u)
    (λ b s r u. (is_some x ≡ shows h) × Both (write_head h) (IfHeld write_item x) b s r u)
