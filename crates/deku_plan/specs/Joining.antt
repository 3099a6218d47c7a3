-- Groups of fields that fill whole bytes, of which each is joined to one number.
use Rattle.std.specs.Prelude.{◌≡◌, ◌⊎◌, ℕ, zero, suc, ◌+◌, ◌-◌, ◌*◌, ◌/◌, ◌%◌, ◌<◌, ◌≤◌, ◌^◌, Bool, List, [], ◌∷◌, ◌++◌, take}
use Rattle.deku_bits.specs.Bits.{bits_of, bits_in}
use Rattle.deku_plan.specs.declared.step.Step.{Step}
use Rattle.deku_plan.specs.declared.part.Part.{Part}
use Rattle.deku_plan.specs.declared.join.Joined.{Joined}

-- ---- parts
-- The part of a step after so many bits of its group: where its value is among 64 bits, and how
-- many bytes there are if the group ends with it.
pub record IsPart (held : ℕ) (s : Step) (p : Part) : Type 0 where
  pub some : 0 < held + s.width
  pub few : held + s.width ≤ 64
  pub scale : p.scale ≡ 2 ^ (64 - (held + s.width))
  pub bytes : (p.bytes ≡ 0) ⊎ (8 * p.bytes ≡ held + s.width)

-- How many of n bits are held after so many bytes are stored: all, or none.
abbrev pub held_after : ℕ → ℕ → ℕ
held_after zero n = n
held_after (suc b) n = 0

-- The parts of steps in a row, the first of them after `held` bits of its group, and the last one
-- with `rest` bits after it.
abbrev pub AreParts : ℕ → List Step → List Part → ℕ → Type 0
AreParts held [] [] rest = held ≡ rest
AreParts held (s ∷ ss) (p ∷ ps) rest = IsPart held s p × AreParts (held_after p.bytes (held + s.width)) ss ps rest
AreParts _ _ _ _ = ⊥

-- ---- what is joined
-- The held bits are at most 64, and the word has no others. They are its high ones.
pub record IsJoined (j : Joined) : Type 0 where
  pub few : j.held ≤ 64
  pub below : j.word < 2 ^ 64
  pub low : j.word % 2 ^ (64 - j.held) ≡ 0

-- The held bits.
abbrev pub held_bits : Joined → List Bool
held_bits j = bits_of j.held (j.word / 2 ^ (64 - j.held))

-- How many bits are joined.
abbrev pub joined_count : Joined → ℕ
joined_count j = 8 * j.place + j.held

-- The bits that are joined: those of the bytes before the place, and the held ones.
abbrev pub joined_bits : List ℕ → Joined → List Bool
joined_bits bytes j = bits_in (take j.place bytes) ++ held_bits j
