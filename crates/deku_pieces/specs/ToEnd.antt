-- Values that are read as they are written if nothing follows them: lists up to the end of the
-- input.
use Rattle.std.specs.Prelude.{◌≡◌, ℕ, ◌+◌, ◌*◌, ◌<◌, ◌^◌, false, List, length, MatchResult, Option, Some, Result, Ok}
use Rattle.std.specs.Global.{Vec}
use Rattle.std.specs.declared.io.ErrorKind.TheVariants.{OutOfMemory}
use Rattle.deku_bits.specs.declared.error.DekuError.{DekuError}
use Rattle.deku_bits.specs.declared.error.DekuError.TheVariants.{Io}
use Rattle.deku_bits.specs.Streams.{Stream, bit_count}
use Rattle.deku_bits.specs.Pieces.{Piece, laid_out}
use Rattle.deku_bits.specs.Symmetry.{Takes}
use Rattle.deku_bits.specs.Standings.{Standing, Going, Output}
use Rattle.deku_bits.specs.Outcomes.{Meaning, Mapped}
use Rattle.deku.specs.Limits.{ReadsToEnd, MappedBy}
use Rattle.deku_pieces.specs.Symmetric.{breadth, IsWrittenAs, Answers, TakenAs}
use Rattle.deku_pieces.specs.Packs.{InStep}

-- m reads one of these values back if nothing follows them. If these pieces can be taken from the
-- stream and nothing is left then, m returns such a value and leaves nothing, or memory runs out.
abbrev pub IsReadBackLast : {V : Type 0} → List Piece → (V → Type 0) → Meaning (Option Stream) V → Type 0
IsReadBackLast {V} ps good m = (S T : Stream) (n : ℕ) (r : Result V DekuError) (u : Standing (Option Stream)) → bit_count T ≡ 0 → Takes ps S T → n + breadth ps < 2 ^ 64
    → m false (Going (Some S) n) r u → Answers good T (n + breadth ps) r u

-- Reading and writing are symmetric at the end of the input. A value has one list of pieces or
-- none. It is written as its pieces, and read back from them if nothing follows. What is read has
-- pieces: those that were taken.
pub record IsSymmetricLast {V : Type 0} (pieces : V → List Piece → Type 0) (same : V → V → Type 0) (writes : V → Meaning Output (Unit {0})) (reads : Meaning (Option Stream) V) : Type 0 where
  pub one : (v : V) (ps qs : List Piece) → pieces v ps → pieces v qs → qs ≡ ps
  pub written : (v : V) (ps : List Piece) → pieces v ps → IsWrittenAs ps (writes v)
  pub read_back : (v : V) (ps : List Piece) → pieces v ps → IsReadBackLast ps (same v) reads
  pub read : (v : V) (S : Stream) (n : ℕ) (u : Standing (Option Stream)) → reads false (Going (Some S) n) (Ok v) u → TakenAs pieces v S n u

-- Items are read up to the end of the input.
abbrev pub ReadsRest : {V X : Type 0} → (Vec V → X) → Meaning (Option Stream) V → Meaning (Option Stream) X
ReadsRest made m = Mapped made (MappedBy (λ xs v. v.items ≡ xs) (ReadsToEnd m))

-- From exactly the bytes that the aligned pieces of a value lay out, if these are whole bytes, the
-- result is that value and the width of its pieces; or memory runs out.
abbrev pub UnpacksWhole : {V : Type 0} → (V → List Piece → Type 0) → (V → V → Type 0) → List ℕ → Result (ℕ × V) DekuError → Type 0
UnpacksWhole {V} pieces same bytes r = (v : V) (ps : List Piece) → pieces v ps → InStep ps → bytes ≡ laid_out ps → breadth ps ≡ 8 * length bytes → breadth ps < 2 ^ 64
    → MatchResult r (λ p. (p.0 ≡ breadth ps) × same v p.1) (λ e. e ≡ Io OutOfMemory)
