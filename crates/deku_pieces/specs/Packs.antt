-- What is promised of symmetric values as bytes, and from bytes.
use Rattle.std.specs.Prelude.{◌≡◌, ℕ, ◌*◌, ◌-◌, ◌<◌, ◌^◌, List, ◌++◌, length, map, take, All, Option, Result, Ok, Err, MatchResult, IfOk}
use Rattle.std.specs.Borrow.{Bor}
use Rattle.std.specs.Global.{Vec}
use Rattle.std.specs.declared.io.ErrorKind.TheVariants.{OutOfMemory}
use Rattle.deku_bits.specs.declared.ctx.Order.TheVariants.{Msb0}
use Rattle.deku_bits.specs.declared.error.DekuError.{DekuError}
use Rattle.deku_bits.specs.declared.error.DekuError.TheVariants.{Io}
use Rattle.deku_bits.specs.Streams.{Stream, fresh}
use Rattle.deku_bits.specs.Pieces.{Piece, Aligned, shape, laid_out, last_order, cleared}
use Rattle.deku_bits.specs.Symmetry.{Takes}
use Rattle.deku_bits.specs.Standings.{Standing, Output, count_of}
use Rattle.deku_bits.specs.Outcomes.{Meaning}
use Rattle.deku_bits.specs.WriterCalls.{Finalizes}
use Rattle.deku.specs.Composing.{Both}
use Rattle.deku.specs.Wholes.{Behind, FromFirst, IsRest, ReadsBytesOnce, WritesOnce}
use Rattle.deku_pieces.specs.Symmetric.{breadth}

-- The order changes only at byte boundaries.
abbrev pub InStep : List Piece → Type 0
InStep ps = Aligned (map shape ps)

-- ---- as bytes
-- The bytes are what the aligned pieces lay out, if the bits can be counted; or memory runs out.
abbrev pub PacksLaid : (List Piece → Type 0) → Result (Vec ℕ) DekuError → Type 0
PacksLaid pieces r = (ps : List Piece) → pieces ps → InStep ps → 8 * length (laid_out ps) < 2 ^ 64
    → MatchResult r (λ v. v.items ≡ laid_out ps) (λ e. e ≡ Io OutOfMemory)

-- ---- from bytes
-- The result of m on bytes of which nothing is read yet: the number of bits read and the value, or
-- the error.
abbrev pub Unpacks : {V : Type 0} → Meaning (Option Stream) V → List ℕ → Result (ℕ × V) DekuError → Type 0
Unpacks m bytes (Ok p) = (u : Standing (Option Stream)) × FromFirst m bytes (Ok p.1) u × (p.0 ≡ count_of u)
Unpacks m bytes (Err e) = (u : Standing (Option Stream)) × FromFirst m bytes (Err e) u

-- From bytes that begin with what the aligned pieces of a value lay out, whatever follows, the
-- result is that value and the width of its pieces; or memory runs out.
abbrev pub UnpacksBack : {V : Type 0} → (V → List Piece → Type 0) → (V → V → Type 0) → List ℕ → Result (ℕ × V) DekuError → Type 0
UnpacksBack {V} pieces same bytes r = (v : V) (ps : List Piece) (after : List ℕ) → pieces v ps → InStep ps → bytes ≡ laid_out ps ++ after → breadth ps < 2 ^ 64
    → MatchResult r (λ p. (p.0 ≡ breadth ps) × same v p.1) (λ e. e ≡ Io OutOfMemory)

-- v has pieces of n bits that were taken one after the other from the bytes. Aligned pieces lay out
-- the bytes that were taken, with the unread bits zero.
pub record WasTaken {V : Type 0} (pieces : V → List Piece → Type 0) (bytes : List ℕ) (n : ℕ) (v : V) : Type 0 where
  pub taken : List Piece
  pub has : pieces v taken
  pub width : n ≡ breadth taken
  pub rest : Stream
  pub takes : Takes taken (fresh bytes) rest
  pub laid : InStep taken → All (λ b. b < 256) bytes
      → laid_out taken ≡ cleared (last_order Msb0 (map shape taken)) (length rest.window) (take (length bytes - length rest.bytes) bytes)

-- A returned value was taken from the bytes.
abbrev pub TakesIts : {V : Type 0} → (V → List Piece → Type 0) → List ℕ → Result (ℕ × V) DekuError → Type 0
TakesIts pieces bytes r = IfOk r (λ p. WasTaken pieces bytes p.0 p.1)

-- ---- as the calls for whole values return them
-- From bytes that begin with what the aligned pieces of a value lay out, whatever follows, the
-- result is that value and the rest of the bytes after its pieces; or memory runs out.
abbrev pub LeavesRest : {V : Type 0} → (V → List Piece → Type 0) → (V → V → Type 0) → List ℕ → Result ((Bor (List ℕ) × ℕ) × V) DekuError → Type 0
LeavesRest {V} pieces same bytes r = (v : V) (ps : List Piece) (after : List ℕ) → pieces v ps → InStep ps → bytes ≡ laid_out ps ++ after → breadth ps < 2 ^ 64
    → MatchResult r (λ p. IsRest bytes (breadth ps) p.0.0 p.0.1 × same v p.1) (λ e. e ≡ Io OutOfMemory)

-- A returned value was taken from the start of the bytes, and the rest of them follows it.
abbrev pub TakesFront : {V : Type 0} → (V → List Piece → Type 0) → List ℕ → Result ((Bor (List ℕ) × ℕ) × V) DekuError → Type 0
TakesFront pieces bytes r = IfOk r (λ p. (n : ℕ) × WasTaken pieces bytes n p.1 × IsRest bytes n p.0.0 p.0.1)

-- `to_bytes` of a value gives what its aligned pieces lay out, or memory runs out.
abbrev pub ToBytesLaw : {V : Type 0} → (V → List Piece → Type 0) → (V → Meaning Output (Unit {0})) → Type 0
ToBytesLaw {V} pieces writes = (v : V) (r : Result (Vec ℕ) DekuError) → WritesOnce (Both (writes v) Finalizes) r → PacksLaid (pieces v) r

-- `from_bytes`, at bit 0, reads a value back from what its aligned pieces lay out.
abbrev pub FromBytesLaw : {V : Type 0} → (V → List Piece → Type 0) → (V → V → Type 0) → Meaning (Option Stream) V → Type 0
FromBytesLaw {V} pieces same reads = (bytes : List ℕ) (r : Result ((Bor (List ℕ) × ℕ) × V) DekuError) → ReadsBytesOnce (Behind 0 reads) bytes r → LeavesRest pieces same bytes r

-- A value that `from_bytes` returns, at bit 0, has pieces that were taken from the bytes.
abbrev pub FoundLaw : {V : Type 0} → (V → List Piece → Type 0) → Meaning (Option Stream) V → Type 0
FoundLaw {V} pieces reads = (bytes : List ℕ) (r : Result ((Bor (List ℕ) × ℕ) × V) DekuError) → ReadsBytesOnce (Behind 0 reads) bytes r → TakesFront pieces bytes r

-- Aligned pieces of whole bytes that were taken one after the other from the first byte on lay out
-- these bytes.
abbrev pub WholeBytesLaw : Type 0
WholeBytesLaw = (ps : List Piece) (bytes : List ℕ) (rest : Stream) (k : ℕ) → InStep ps → All (λ b. b < 256) bytes → Takes ps (fresh bytes) rest → breadth ps ≡ 8 * k
    → laid_out ps ≡ take k bytes
