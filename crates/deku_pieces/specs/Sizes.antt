-- Content of exactly as many bits as a head says.
use Rattle.std.specs.Prelude.{◌≡◌, ℕ, ◌+◌, ◌<◌, false, List, length, codes, Option, None, Some}
use Rattle.std.specs.Borrow.{Bor}
use Rattle.std.specs.Global.{Vec}
use Rattle.deku_bits.specs.declared.error.DekuError.{DekuError}
use Rattle.deku_bits.specs.declared.error.DekuError.TheVariants.{Assertion, Parse}
use Rattle.deku_bits.specs.Pieces.{Piece}
use Rattle.deku_bits.specs.Streams.{Stream}
use Rattle.deku_bits.specs.Writers.{pending_bits}
use Rattle.deku_bits.specs.Standings.{Standing, Going, Stopped, Output, count_of}
use Rattle.deku_bits.specs.Outcomes.{Meaning, Refuses, Mapped}
use Rattle.deku_num.specs.NumberCalls.{Checked}
use Rattle.deku.specs.Composing.{Answer, Then, Both}
use Rattle.deku.specs.Limits.{ReadsBitsOf, MappedBy}
use Rattle.deku_pieces.specs.Symmetric.{breadth}
use Rattle.deku_pieces.specs.Pieces.{InTurn}

-- ---- pieces
-- The pieces of content that has as many bits as the size says. Other content has none.
abbrev pub OfSized : {V : Type 0} → Option ℕ → (V → List Piece → Type 0) → V → List Piece → Type 0
OfSized size pieces v ps = (size ≡ Some (breadth ps)) × pieces v ps

-- The pieces of the head, and then of content of the size that it says.
abbrev pub OfSizes : {V W : Type 0} → (V → Option ℕ) → (V → List Piece → Type 0) → (W → List Piece → Type 0) → V → W → List Piece → Type 0
OfSizes size_of of_head of_content h x = InTurn (of_head h) (OfSized (size_of h) of_content x)

-- ---- bits that were moved
-- How many bits were given to a writer: those that its sink took, and the pending ones.
abbrev pub given_bits : Standing Output → ℕ
given_bits (Going out count) = count + length (pending_bits out.pending)
given_bits (Stopped out fault count) = count

-- Fewer than eight bits are pending, as always in a writer.
abbrev pub FewPending : Standing Output → Type 0
FewPending (Going out count) = length (pending_bits out.pending) < 8
FewPending (Stopped out fault count) = 0 < 8

-- ---- reading and writing
-- What k says of the size. If there is none, it fails, and nothing moves.
abbrev pub IfSized : {A V : Type 0} → (Bor (List ℕ) → DekuError) → Option ℕ → (ℕ → Meaning A V) → Meaning A V
IfSized refusal None k b s r u = (b ≡ false) × Refuses refusal (codes "head without a size") s r u
IfSized refusal (Some n) k b s r u = k n b s r u

-- The value v, if n bits more than before were read. Otherwise it fails, and nothing moves.
abbrev pub IfRead : {V : Type 0} → ℕ → V → Meaning (Option Stream) V
IfRead end v = Checked (λ t r u. (count_of t ≡ end → ⊥) × Refuses Assertion (codes "content out of step with its size") t r u) (λ b t r u. (count_of t ≡ end) × Answer v b t r u)

-- Content is read. It fails if that took more or fewer than n bits; the content stays read.
abbrev pub ReadsExactly : {V : Type 0} → ℕ → Meaning (Option Stream) V → Meaning (Option Stream) V
ReadsExactly n m b s r u = Then m (IfRead (count_of s + n)) b s r u

-- A head is read, and then content of the size that it says.
abbrev pub ReadsSizes : {V W X : Type 0} → (V → W → X) → (V → Option ℕ) → Meaning (Option Stream) V → Meaning (Option Stream) W → Meaning (Option Stream) X
ReadsSizes made size_of m k = Then m (λ h. Mapped (made h) (IfSized Parse (size_of h) (λ n. ReadsExactly n k)))

-- Nothing more, if this many bits were given. Otherwise it fails, and nothing moves.
abbrev pub IfGiven : Standing Output → ℕ → Meaning Output (Unit {0})
IfGiven s end = Checked (λ t r u. FewPending s × (given_bits t ≡ end → ⊥) × Refuses Assertion (codes "content out of step with its size") t r u) (λ b t r u. (given_bits t ≡ end) × Answer tt b t r u)

-- Content is written. It fails if these were more or fewer than n bits, which stay written.
abbrev pub WritesExactly : ℕ → Meaning Output (Unit {0}) → Meaning Output (Unit {0})
WritesExactly n m b s r u = Then m (λ _. IfGiven s (given_bits s + n)) b s r u

-- A head is written, and then content of the size that it says. If the head says no size, it fails
-- before that, and nothing moves.
abbrev pub WritesSizes : {V W : Type 0} → (V → Option ℕ) → (V → Meaning Output (Unit {0})) → (W → Meaning Output (Unit {0})) → V → W → Meaning Output (Unit {0})
WritesSizes size_of write_head write_content h x = IfSized Assertion (size_of h) (λ n. Both (write_head h) (WritesExactly n (write_content x)))

-- ---- items
-- A head is read, and then items up to the one with which as many bits as it says are read.
abbrev pub ReadsFilled : {V W X : Type 0} → (V → Vec W → X) → (V → Option ℕ) → Meaning (Option Stream) V → Meaning (Option Stream) W → Meaning (Option Stream) X
ReadsFilled made size_of m k = Then m (λ h. Mapped (made h) (IfSized Parse (size_of h) (λ n. MappedBy (λ xs v. v.items ≡ xs) (ReadsBitsOf n k))))
