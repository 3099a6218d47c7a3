-- Parts that are checked after they are read, and before they are written.
use Rattle.std.specs.Prelude.{◌≡◌, ℕ, Bool, true, false, List, Option}
use Rattle.deku_bits.specs.declared.error.DekuError.TheVariants.{Assertion}
use Rattle.deku_bits.specs.Pieces.{Piece}
use Rattle.deku_bits.specs.Streams.{Stream}
use Rattle.deku_bits.specs.Standings.{Output}
use Rattle.deku_bits.specs.Outcomes.{Meaning, Refuses}
use Rattle.deku_num.specs.NumberCalls.{Checked}
use Rattle.deku.specs.Composing.{Answer, Then}
use Rattle.deku_pieces.specs.declared.assertion.Assert.{Assert}
use Rattle.deku_pieces.specs.declared.magic.Magic.{Magic}

-- The pieces of a part that passes. Another part has none.
abbrev pub OfPassing : {V C : Type 0} → (V → Bool) → (V → List Piece → Type 0) → Assert V C → List Piece → Type 0
OfPassing passes pieces v ps = (passes v.part ≡ true) × pieces v.part ps

-- If v passes, it is m. Otherwise it fails with this text, and nothing moves.
abbrev pub IfPasses : {A V W : Type 0} → (V → Bool) → List ℕ → V → Meaning A W → Meaning A W
IfPasses passes text v m = Checked (λ s r u. (passes v ≡ false) × Refuses Assertion text s r u) (λ b s r u. (passes v ≡ true) × m b s r u)

-- A part is read. It fails with this text if the part does not pass.
abbrev pub ReadsAsserted : {V C : Type 0} → (V → Bool) → List ℕ → Meaning (Option Stream) V → Meaning (Option Stream) (Assert V C)
ReadsAsserted passes text m = Then m (λ v. IfPasses passes text v (Answer (record { part = v; check = record {} })))

-- A part is written if it passes. Otherwise it fails with this text, and nothing moves.
abbrev pub WritesAsserted : {V C : Type 0} → (V → Bool) → List ℕ → (V → Meaning Output (Unit {0})) → Assert V C → Meaning Output (Unit {0})
WritesAsserted passes text writes v = IfPasses passes text v.part (writes v.part)

-- ---- one value
-- A part is read. It fails with this text if it is not this value.
abbrev pub ReadsMagic : {V C : Type 0} → V → List ℕ → Meaning (Option Stream) V → Meaning (Option Stream) (Magic V C)
ReadsMagic value text m = Then m (λ v. Checked (λ s r u. (v ≡ value → ⊥) × Refuses Assertion text s r u) (λ b s r u. (v ≡ value) × Answer (record { part = record {}; constant = record {} }) b s r u))
