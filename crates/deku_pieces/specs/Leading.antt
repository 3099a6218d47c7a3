-- Heads that say how many items follow them.
use Rattle.std.specs.Prelude.{◌≡◌, ℕ, Bool, false, List, length, codes, Option, None, Some, Result}
use Rattle.std.specs.Global.{Vec}
use Rattle.deku_bits.specs.declared.error.DekuError.{DekuError}
use Rattle.deku_bits.specs.declared.error.DekuError.TheVariants.{Assertion, Parse}
use Rattle.deku_bits.specs.Pieces.{Piece}
use Rattle.deku_bits.specs.Streams.{Stream}
use Rattle.deku_bits.specs.Standings.{Standing, Output}
use Rattle.deku_bits.specs.Outcomes.{Meaning, Refuses, Mapped}
use Rattle.deku_num.specs.NumberCalls.{Checked}
use Rattle.deku.specs.Composing.{Then, Both, WritesEach}
use Rattle.deku.specs.Limits.{ReadsCount, MappedBy}
use Rattle.deku_pieces.specs.Pieces.{OfTimes, InTurn, SameEach}
use Rattle.deku_pieces.specs.declared.counted.Counted.{Counted}

-- The count is this number.
abbrev pub IsCounted : Option ℕ → ℕ → Type 0
IsCounted count n = count ≡ Some n

-- ---- pieces
-- The pieces of as many items as the count says. Without a count there are none.
abbrev pub OfCounted : {V : Type 0} → Option ℕ → (V → List Piece → Type 0) → Vec V → List Piece → Type 0
OfCounted count pieces items ps = (n : ℕ) × (count ≡ Some n) × OfTimes n pieces items.items ps

-- The pieces of the head, and then of the items that it counts.
abbrev pub OfCounts : {V W : Type 0} → (V → Option ℕ) → (V → List Piece → Type 0) → (W → List Piece → Type 0) → V → Vec W → List Piece → Type 0
OfCounts count_of of_head of_item h xs = InTurn (of_head h) (OfCounted (count_of h) of_item xs)

abbrev pub OfCountedBy : {V W : Type 0} → (V → Option ℕ) → (V → List Piece → Type 0) → (W → List Piece → Type 0) → Counted V W → List Piece → Type 0
OfCountedBy count_of of_head of_item v = OfCounts count_of of_head of_item v.head v.items

-- The same head and the same items.
abbrev pub SameCountedBy : {V W : Type 0} → (V → V → Type 0) → (W → W → Type 0) → Counted V W → Counted V W → Type 0
SameCountedBy same_head same_item v w = same_head v.head w.head × SameEach same_item v.items.items w.items.items

-- ---- reading and writing
-- As many items as the count says are read into a vector. Without a count it fails, and nothing
-- moves.
pub data ReadsCounted {V : Type 0} (count : Option ℕ) (m : Meaning (Option Stream) V) (b : Bool) (s : Standing (Option Stream)) (r : Result (Vec V) DekuError) (u : Standing (Option Stream)) : Type 0 where
  Uncounted : b ≡ false → count ≡ None → Refuses Parse (codes "head without a count") s r u → ReadsCounted count m b s r u
  CountedItems : (n : ℕ) → count ≡ Some n → MappedBy (λ xs v. v.items ≡ xs) (ReadsCount n m) b s r u → ReadsCounted count m b s r u

-- A head is read, and then as many items as it says.
abbrev pub ReadsCountedBy : {V W : Type 0} → (V → Option ℕ) → Meaning (Option Stream) V → Meaning (Option Stream) W → Meaning (Option Stream) (Counted V W)
ReadsCountedBy count_of m k = Then m (λ h. Mapped (λ xs. record { head = h; items = xs }) (ReadsCounted (count_of h) k))

-- A head is written, and then the items. If they are not as many as the head says, it fails before
-- that, and nothing moves.
abbrev pub WritesCounts : {V W : Type 0} → (V → Option ℕ) → (V → Meaning Output (Unit {0})) → (W → Meaning Output (Unit {0})) → V → Vec W → Meaning Output (Unit {0})
WritesCounts count_of write_head write_item h xs = Checked
    (λ s r u. (IsCounted (count_of h) (length xs.items) → ⊥) × Refuses Assertion (codes "count out of step with items") s r u)
    (λ b s r u. IsCounted (count_of h) (length xs.items) × Both (write_head h) (WritesEach write_item xs.items) b s r u)

abbrev pub WritesCountedBy : {V W : Type 0} → (V → Option ℕ) → (V → Meaning Output (Unit {0})) → (W → Meaning Output (Unit {0})) → Counted V W → Meaning Output (Unit {0})
WritesCountedBy count_of write_head write_item v = WritesCounts count_of write_head write_item v.head v.items

-- A count is read, and then as many items.
abbrev pub ReadsPrefixed : {I V X : Type 0} → (Vec V → X) → (I → ℕ) → Meaning (Option Stream) I → Meaning (Option Stream) V → Meaning (Option Stream) X
ReadsPrefixed made number_of m k = Then m (λ i. Mapped made (MappedBy (λ xs v. v.items ≡ xs) (ReadsCount (number_of i) k)))
