-- Layers that were read.
use Rattle.std.specs.Prelude.{◌≡◌, ℕ, ◌-◌, ◌≤◌, List, length, Option, Ok}
use Rattle.std.specs.Borrow.{Bor}
use Rattle.deku_bits.specs.Streams.{Stream}
use Rattle.deku_bits.specs.Outcomes.{Meaning}
use Rattle.deku.specs.Wholes.{Behind, ReadsBytesOnce}
use Rattle.deku_packets.specs.declared.layer.Layer.{Layer}
use Rattle.deku_packets.specs.declared.layer.Placed.{Placed}
use Rattle.deku_packets.specs.Back.{between}

-- Reading some bytes gives this value, and takes this many of them.
pub record IsFirst {V : Type 0} (m : Meaning (Option Stream) V) (v : V) (bytes : List ℕ) (count : ℕ) : Type 0 where
  pub rest : Bor (List ℕ) × ℕ
  pub read : ReadsBytesOnce (Behind 0 m) bytes (Ok (rest, v))
  pub counts : count ≡ length bytes - length rest.0.now

-- What is first in the bytes of a packet from `start` up to some limit, and takes those before
-- `end`.
pub record IsAt (is_first : List ℕ → ℕ → Type 0) (bytes : List ℕ) (start end : ℕ) : Type 0 where
  pub limit : ℕ
  pub ordered : start ≤ end
  pub there : is_first (between bytes start limit) (end - start)

-- How each layer is read: which bytes it is first in, and how many of them it takes.
abbrev pub Reading : Type 1
Reading = Layer → List ℕ → ℕ → Type 0

-- The layer is what reading gives at its place in the bytes.
abbrev pub IsPlaced : Reading → List ℕ → Placed → Type 0
IsPlaced reads bytes p = IsAt (reads p.layer) bytes p.start p.end
