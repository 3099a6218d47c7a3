-- Frames: an id and a version of four bits each, and the fields of that id after them; all big,
-- high bits first.
use Rattle.std.specs.Prelude.{◌≡◌, ◌⊎◌, ℕ, ◌<◌, ◌≤◌, ◌^◌, ⊤, Bool, false, List, length, codes, Option, Result, Ok, Err, pos}
use Rattle.std.specs.Global.{Vec}
use Rattle.deku_bits.specs.declared.error.DekuError.{DekuError}
use Rattle.deku_bits.specs.declared.error.DekuError.TheVariants.{Assertion, IdVariantNotFound, Parse}
use Rattle.deku_bits.specs.Faults.{Tells}
use Rattle.deku_bits.specs.Pieces.{Piece}
use Rattle.deku_bits.specs.Streams.{Stream}
use Rattle.deku_bits.specs.Standings.{Standing, Output}
use Rattle.deku_bits.specs.Outcomes.{Meaning, Refuses, Mapped}
use Rattle.deku_num.specs.declared.ctx.Size.{Size}
use Rattle.deku_num.specs.declared.ctx.Size.TheVariants.{Whole, Bits}
use Rattle.deku_num.specs.Numbers.{byte, unsigned}
use Rattle.deku_num.specs.NumberCalls.{Checked, ReadsUnsigned, WritesNumber}
use Rattle.deku.specs.Composing.{Then, Both, PairOf, WritesEach}
use Rattle.deku.specs.Limits.{ReadsCount, MappedBy}
use Rattle.deku_pieces.specs.Pieces.{OfUnsigned, OfTimes, InTurn, SameEach, high_first}
use Rattle.deku_frame.specs.declared.frame.Frame.{Frame}
use Rattle.deku_frame.specs.declared.frame.Frame.TheVariants.{Ping, Data, Pair}

-- The id of a frame.
abbrev pub id_of : Frame → ℕ
id_of (Ping token) = 1
id_of (Data n payload) = 2
id_of (Pair l r) = 3

-- The id and the version.
abbrev pub head_of : Frame → ℕ × ℕ
head_of f = (id_of f, 1)

-- ---- pieces
-- The pieces of the id and the version.
abbrev pub OfHead : ℕ × ℕ → List Piece → Type 0
OfHead h = InTurn (OfUnsigned byte (high_first (Bits 4)) h.0) (OfUnsigned byte (high_first (Bits 4)) h.1)

-- The pieces of the fields after them. There are none if the length is not that of the payload.
abbrev pub OfBody : Frame → List Piece → Type 0
OfBody (Ping token) = OfUnsigned (unsigned 16) (high_first Whole) token
OfBody (Data n payload) = InTurn (OfUnsigned byte (high_first Whole) n) (OfTimes n (OfUnsigned byte (high_first Whole)) payload.items)
OfBody (Pair l r) = InTurn (OfUnsigned byte (high_first (Bits 5)) l) (OfUnsigned (unsigned 16) (high_first (Bits 11)) r)

-- The pieces of a frame.
abbrev pub OfFrame : Frame → List Piece → Type 0
OfFrame f = InTurn (OfHead (head_of f)) (OfBody f)

-- The same frame, except for where its payload is in memory.
abbrev pub SameFrame : Frame → Frame → Type 0
SameFrame (Ping a) (Ping b) = a ≡ b
SameFrame (Data m a) (Data n b) = (m ≡ n) × SameEach (λ x y. x ≡ y) a.items b.items
SameFrame (Pair a b) (Pair c d) = (a ≡ c) × (b ≡ d)
SameFrame _ _ = ⊥

-- ---- reading
-- A byte of this size is read.
abbrev pub ReadsByteBits : Size → Meaning (Option Stream) ℕ
ReadsByteBits size = ReadsUnsigned byte (high_first size)

-- The id and the version are read.
abbrev pub ReadsHead : Meaning (Option Stream) (ℕ × ℕ)
ReadsHead = PairOf (ReadsByteBits (Bits 4)) (ReadsByteBits (Bits 4))

-- n bytes are read, one by one.
abbrev pub ReadsPayload : ℕ → Meaning (Option Stream) (Vec ℕ)
ReadsPayload n = MappedBy (λ xs v. v.items ≡ xs) (ReadsCount n (ReadsByteBits Whole))

-- A token is read.
abbrev pub ReadsPing : Meaning (Option Stream) Frame
ReadsPing = Mapped Ping (ReadsUnsigned (unsigned 16) (high_first Whole))

-- A length and as many bytes are read.
abbrev pub ReadsSized : Meaning (Option Stream) (ℕ × Vec ℕ)
ReadsSized = Then (ReadsByteBits Whole) (λ n. Mapped (λ v. (n, v)) (ReadsPayload n))

-- A frame of them is read.
abbrev pub ReadsData : Meaning (Option Stream) Frame
ReadsData = Mapped {V = ℕ × Vec ℕ} (λ p. Data p.0 p.1) ReadsSized

-- Five bits and eleven are read.
abbrev pub ReadsHalves : Meaning (Option Stream) (ℕ × ℕ)
ReadsHalves = PairOf (ReadsByteBits (Bits 5)) (ReadsUnsigned (unsigned 16) (high_first (Bits 11)))

-- A frame of them is read.
abbrev pub ReadsPair : Meaning (Option Stream) Frame
ReadsPair = Mapped {V = ℕ × ℕ} (λ p. Pair p.0 p.1) ReadsHalves

-- After an id and a version: another version than 1 fails, then another id than 1, 2 and 3, and
-- nothing moves. Otherwise the fields are read.
pub data ReadsBody (h : ℕ × ℕ) (b : Bool) (s : Standing (Option Stream)) (r : Result Frame DekuError) (u : Standing (Option Stream)) : Type 0 where
  OtherVersion : b ≡ false → (h.1 ≡ 1 → ⊥) → Refuses Assertion (codes "Field failed assertion") s r u → ReadsBody h b s r u
  OtherId : b ≡ false → (h.0 ≡ 1 → ⊥) → (h.0 ≡ 2 → ⊥) → (h.0 ≡ 3 → ⊥) → r ≡ Err IdVariantNotFound → u ≡ s → ReadsBody h b s r u
  IsPing : h ≡ (1, 1) → ReadsPing b s r u → ReadsBody h b s r u
  IsData : h ≡ (2, 1) → ReadsData b s r u → ReadsBody h b s r u
  IsPair : h ≡ (3, 1) → ReadsPair b s r u → ReadsBody h b s r u

-- A frame is read.
abbrev pub ReadsFrame : Meaning (Option Stream) Frame
ReadsFrame = Then ReadsHead ReadsBody

-- ---- writing
-- The fields after the id and the version are written.
abbrev pub WritesBody : Frame → Meaning Output (Unit {0})
WritesBody (Ping token) = WritesNumber (unsigned 16) (high_first Whole) (pos token)
WritesBody (Data n payload) = Both (WritesNumber byte (high_first Whole) (pos n)) (WritesEach (λ b. WritesNumber byte (high_first Whole) (pos b)) payload.items)
WritesBody (Pair l r) = Both (WritesNumber byte (high_first (Bits 5)) (pos l)) (WritesNumber (unsigned 16) (high_first (Bits 11)) (pos r))

-- The length is that of the payload, if there is one.
abbrev pub IsInStep : Frame → Type 0
IsInStep (Data n payload) = length payload.items ≡ n
IsInStep _ = ⊤

-- The id and the version are written.
abbrev pub WritesHead : ℕ × ℕ → Meaning Output (Unit {0})
WritesHead h = Both (WritesNumber byte (high_first (Bits 4)) (pos h.0)) (WritesNumber byte (high_first (Bits 4)) (pos h.1))

-- A frame is written. If its length is not that of its payload, it fails before that, and nothing
-- moves.
abbrev pub WritesFrame : Frame → Meaning Output (Unit {0})
WritesFrame f = Checked (λ s r u. (IsInStep f → ⊥) × Refuses Assertion (codes "Field failed assertion") s r u)
    (λ b s r u. IsInStep f × Both (WritesHead (head_of f)) (WritesBody f) b s r u)

-- ---- updating
-- After an update the length is that of the payload, and nothing else changes. Or a byte cannot
-- count that many bytes, and nothing changes.
abbrev pub Updates : Frame → Result (Unit {0}) DekuError → Frame → Type 0
Updates (Data n payload) r g = ((length payload.items < 2 ^ 8) × (r ≡ Ok tt) × (g ≡ Data (length payload.items) payload))
    ⊎ ((2 ^ 8 ≤ length payload.items) × ((e : DekuError) × (r ≡ Err e) × Tells Parse (codes "error parsing int") e) × (g ≡ Data n payload))
Updates f r g = (r ≡ Ok tt) × (g ≡ f)
