-- What is promised of frames as bytes, and from bytes.
use Rattle.std.specs.Prelude.{◌≡◌, ℕ, ◌*◌, ◌<◌, ◌^◌, List, ◌++◌, length, All, Result, Ok, MatchResult}
use Rattle.std.specs.Borrow.{Bor}
use Rattle.std.specs.Global.{Vec}
use Rattle.std.specs.declared.io.ErrorKind.TheVariants.{OutOfMemory}
use Rattle.deku_bits.specs.declared.error.DekuError.{DekuError}
use Rattle.deku_bits.specs.declared.error.DekuError.TheVariants.{Io}
use Rattle.deku_bits.specs.Pieces.{Piece, laid_out}
use Rattle.deku_bits.specs.WriterCalls.{Finalizes}
use Rattle.deku.specs.Composing.{Both}
use Rattle.deku.specs.Wholes.{Behind, ReadsBytesOnce, WritesOnce}
use Rattle.deku_frame.specs.declared.frame.Frame.{Frame}
use Rattle.deku_frame.specs.declared.frame.Frame.TheVariants.{Data}
use Rattle.deku_frame.specs.Frames.{OfFrame, SameFrame, ReadsFrame, WritesFrame, Updates}

-- A frame that has pieces, as bytes, is what they lay out; or memory runs out.
abbrev pub WriteLaw : Type 0
WriteLaw = (f : Frame) (ps : List Piece) (r : Result (Vec ℕ) DekuError) → OfFrame f ps
    → WritesOnce (Both (WritesFrame f) Finalizes) r → MatchResult r (λ v. v.items ≡ laid_out ps) (λ e. e ≡ Io OutOfMemory)

-- From bytes that begin with what the pieces of a frame lay out, whatever follows, the result is
-- that frame, and the bytes that follow; or memory runs out.
abbrev pub ReadLaw : Type 0
ReadLaw = (f : Frame) (ps : List Piece) (after bytes : List ℕ) (r : Result ((Bor (List ℕ) × ℕ) × Frame) DekuError) → OfFrame f ps → bytes ≡ laid_out ps ++ after
    → ReadsBytesOnce (Behind 0 ReadsFrame) bytes r
    → MatchResult r (λ p. SameFrame f p.1 × (p.0.0.now ≡ after) × (p.0.1 ≡ 0)) (λ e. e ≡ Io OutOfMemory)

-- Bytes from which a frame is read begin with what its pieces lay out, and the rest is what
-- follows.
abbrev pub RewriteLaw : Type 0
RewriteLaw = (bytes : List ℕ) (p : (Bor (List ℕ) × ℕ) × Frame) → All (λ b. b < 256) bytes → ReadsBytesOnce (Behind 0 ReadsFrame) bytes (Ok p)
    → (ps : List Piece) × OfFrame p.1 ps × (bytes ≡ laid_out ps ++ p.0.0.now) × (p.0.1 ≡ 0)

-- A frame of bytes that was updated has pieces, so it is written as them.
abbrev pub UpdateLaw : Type 0
UpdateLaw = (n : ℕ) (payload : Vec ℕ) (f : Frame) → All (λ b. b < 256) payload.items → Updates (Data n payload) (Ok tt) f → (ps : List Piece) × OfFrame f ps
