-- What functions do that C calls for a record.
use Rattle.std.specs.Prelude.{◌≡◌, ℕ, ◌*◌, ◌<◌, ◌≤◌, ◌^◌, List, ◌++◌, length, drop, Option, Result, Ok, Err}
use Rattle.deku_bits.specs.declared.error.DekuError.{DekuError}
use Rattle.deku_bits.specs.Streams.{Stream}
use Rattle.deku_bits.specs.Pieces.{Piece, laid_out}
use Rattle.deku_bits.specs.Standings.{Output}
use Rattle.deku_bits.specs.Outcomes.{Meaning}
use Rattle.deku_bits.specs.WriterCalls.{Finalizes}
use Rattle.deku.specs.Composing.{Both}
use Rattle.deku.specs.Wholes.{WritesOver}
use Rattle.deku_pieces.specs.Packs.{InStep, Unpacks, UnpacksBack, TakesIts}
use Rattle.deku_c_records.specs.Statuses.{status_in}

-- What is left in a place for a value: that of the result; or what was there, after an error.
abbrev pub value_or : {V : Type 0} → V → Result (ℕ × V) DekuError → V
value_or old (Ok p) = p.1
value_or old (Err e) = old

-- What a call reads from bytes: its number, and the value in its place before and after. It is what
-- `unpack` returns.
pub record ReadsFor {V : Type 0} (m : Meaning (Option Stream) V) (pieces : V → List Piece → Type 0) (same : V → V → Type 0) (bytes : List ℕ) (status : ℕ) (old new : V) : Type 0 where
  pub outcome : Result (ℕ × V) DekuError
  pub meaning : Unpacks m bytes outcome
  pub back : UnpacksBack pieces same bytes outcome
  pub taken : TakesIts pieces bytes outcome
  pub tells : status ≡ status_in outcome
  pub place : new ≡ value_or old outcome

-- Aligned pieces for which there is room are written as what they lay out, and the bytes after it
-- stay.
abbrev pub LaidOver : (List Piece → Type 0) → List ℕ → Result ℕ DekuError → List ℕ → Type 0
LaidOver pieces old r new = (ps : List Piece) → pieces ps → InStep ps → length (laid_out ps) ≤ length old → 8 * length (laid_out ps) < 2 ^ 64
    → (r ≡ Ok (length (laid_out ps))) × (new ≡ laid_out ps ++ drop (length (laid_out ps)) old)

-- What a call writes to bytes: its number, and the bytes before and after. It is what `to_slice`
-- does.
pub record WritesFor (m : Meaning Output (Unit {0})) (pieces : List Piece → Type 0) (old : List ℕ) (status : ℕ) (new : List ℕ) : Type 0 where
  pub outcome : Result ℕ DekuError
  pub meaning : WritesOver (Both m Finalizes) old outcome new
  pub laid : LaidOver pieces old outcome new
  pub tells : status ≡ status_in outcome
