-- Bytes that begin with what was written of a frame.
use Rattle.std.proofs.Common.{◌≡◌, ℕ, List, ◌++◌, Result, Ok, Err, MatchResult, IfOk, ap, sym, ◌∙◌}
use Rattle.std.specs.Global.{Vec}
use Rattle.std.specs.declared.io.ErrorKind.TheVariants.{OutOfMemory}
use Rattle.deku_bits.specs.declared.error.DekuError.{DekuError}
use Rattle.deku_bits.specs.declared.error.DekuError.TheVariants.{Io}
use Rattle.deku_bits.specs.Pieces.{Piece, laid_out}
use Rattle.deku_fields.specs.declared.frame.Frame.{Frame}
use Rattle.deku_fields.specs.Frames.{OfFrame}
use Rattle.deku_callers.specs.Rewriting.{IsFrameOf}

pub begins : (bytes rest : List ℕ) (f : Frame) (ps : List Piece) → OfFrame f ps → bytes ≡ laid_out ps ++ rest
    → (r : Result (Vec ℕ) DekuError) → MatchResult r (λ v. v.items ≡ laid_out ps) (λ e. e ≡ Io OutOfMemory) → IfOk r (λ v. IsFrameOf bytes v.items)
begins bytes rest f ps lies is (Ok v) same = record { frame = f; pieces = ps; lies = lies; same = same; after = rest; front = is ∙ ap (λ x. x ++ rest) (sym same) }
begins bytes rest f ps lies is (Err e) same = tt
