-- Values that are made of the number of their bits.
use Rattle.std.specs.Prelude.{◌≡◌, ℕ, ◌-◌, ◌<◌, ◌≤◌, ◌^◌, ⊤, false, length, Option, None, Some, Result, Ok}
use Rattle.deku_bits.specs.declared.ctx.Order.{Order}
use Rattle.deku_bits.specs.declared.error.DekuError.{DekuError}
use Rattle.deku_bits.specs.Bits.{bits_of, facing}
use Rattle.deku_bits.specs.Streams.{Stream}
use Rattle.deku_bits.specs.Standings.{Standing, Going, Stopped}
use Rattle.deku_bits.specs.Outcomes.{Meaning}
use Rattle.deku_bits.specs.ReaderCalls.{TakesBits}
use Rattle.deku_num.specs.Cutting.{front}

-- The window has fewer than eight bits, if the stream is known and goes on.
abbrev pub IsCut : Standing (Option Stream) → Type 0
IsCut (Going (Some S) c) = length S.window < 8
IsCut (Going None c) = ⊤
IsCut (Stopped a e c) = ⊤

-- m reads v where the next n bits have the number k, their first bit its highest in `Msb0` and its
-- lowest in `Lsb0`: what takes these bits is a read of v.
abbrev pub IsReadOf : {V : Type 0} → Meaning (Option Stream) V → Order → ℕ → ℕ → V → Type 0
IsReadOf m o n k v = (s u : Standing (Option Stream)) → IsCut s → TakesBits o n false s (Ok (facing o (bits_of n k))) u → m false s (Ok v) u

-- A value of m is made of the number of its n bits: from a known stream that has these bits next, m
-- allows one value alone, takes these bits, and reads the value wherever they are next.
abbrev pub IsOfNumber : {V : Type 0} → Meaning (Option Stream) V → Order → ℕ → Type 0
IsOfNumber {V} m o n = (k : ℕ) (S : Stream) (c : ℕ) (t : Standing (Option Stream)) → k < 2 ^ n → length S.window < 8 → TakesBits o n false (Going (Some S) c) (Ok (facing o (bits_of n k))) t
    → (r : Result V DekuError) (u : Standing (Option Stream)) → m false (Going (Some S) c) r u → (v : V) × (r ≡ Ok v) × (u ≡ t) × IsReadOf m o n k v

-- From the first n bits of a word of `room` bits, v is made as a value of m.
pub record IsCutFrom {V : Type 0} (m : Meaning (Option Stream) V) (o : Order) (word room : ℕ) (v : V) (n : ℕ) : Type 0 where
  pub some : 0 < n
  pub within : n ≤ room
  pub number : IsOfNumber m o n
  pub reads : IsReadOf m o n (front o word n (room - n)) v
