-- Layers that are written back.
use Rattle.std.specs.Prelude.{◌≡◌, ◌⊎◌, ℕ, ◌+◌, ◌-◌, ◌^◌, ◌&&◌, nat_le, min, List, [], ◌∷◌, ◌++◌, length, take, slice_range, All, Ok, Err, if◌then◌else◌}
use Rattle.std.specs.Global.{Vec}
use Rattle.deku_bits.specs.declared.error.DekuError.{DekuError}
use Rattle.deku_bits.specs.Outcomes.{Meaning}
use Rattle.deku_bits.specs.Standings.{Output}
use Rattle.deku_bits.specs.WriterCalls.{Finalizes}
use Rattle.deku.specs.Composing.{Both}
use Rattle.deku.specs.Wholes.{WritesOnce}
use Rattle.deku_packets.specs.declared.layer.Layer.{Layer}
use Rattle.deku_packets.specs.declared.layer.Layer.TheVariants.{Rest}
use Rattle.deku_packets.specs.declared.layer.Placed.{Placed}

-- The bytes from one index to another, or none if not all of them are there.
abbrev pub between : List ℕ → ℕ → ℕ → List ℕ
between bytes start end = if nat_le start end && nat_le end (length bytes) then slice_range bytes start end else []

-- The first n bytes of both are the same, and the first n + 1 are not.
abbrev pub IsFirstDifference : List ℕ → List ℕ → ℕ → Type 0
IsFirstDifference read written n = (take n read ≡ take n written) × (take (n + 1) read ≡ take (n + 1) written → ⊥)

-- How each layer is written.
abbrev pub Writing : Type 1
Writing = Layer → Unit {0} → Meaning Output (Unit {0})

-- The layer has no record, or is written as the bytes in its place.
abbrev pub IsBack : Writing → List ℕ → Placed → Type 0
IsBack writes bytes p = (p.layer ≡ Rest)
    ⊎ ((v : Vec ℕ) × WritesOnce (Both (writes p.layer tt) Finalizes) (Ok v) × (between bytes p.start p.end ≡ v.items))

-- The layer has a record, which is written as other bytes, and this byte of the packet is the first
-- that differs.
pub record IsChanged (writes : Writing) (bytes : List ℕ) (p : Placed) (index : ℕ) : Type 0 where
  pub record_there : p.layer ≡ Rest → ⊥
  pub written : Vec ℕ
  pub is : WritesOnce (Both (writes p.layer tt) Finalizes) (Ok written)
  pub offset : ℕ
  pub differs : IsFirstDifference (between bytes p.start p.end) written.items offset
  pub at : index ≡ min (p.start + offset) (2 ^ 64 - 1)

-- The layer after the first n, before which all are written back.
pub record IsReached (writes : Writing) (bytes : List ℕ) (layers : List Placed) (n : ℕ) (p : Placed) : Type 0 where
  pub before : All (IsBack writes bytes) (take n layers)
  pub there : take (n + 1) layers ≡ take n layers ++ (p ∷ [])

-- This byte is the first of the packet that is written otherwise.
abbrev pub IsFirstChange : Writing → List ℕ → List Placed → ℕ → Type 0
IsFirstChange writes bytes layers index = (n : ℕ) × (p : Placed) × IsReached writes bytes layers n p × IsChanged writes bytes p index

-- A layer is not written, with this error.
abbrev pub IsUnwritten : Writing → List ℕ → List Placed → DekuError → Type 0
IsUnwritten writes bytes layers e = (n : ℕ) × (p : Placed) × IsReached writes bytes layers n p × WritesOnce (Both (writes p.layer tt) Finalizes) (Err e)
