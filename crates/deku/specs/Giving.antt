-- Meanings with one outcome only.
use Rattle.std.specs.Prelude.{◌≡◌, false, Result, Ok}
use Rattle.deku_bits.specs.declared.error.DekuError.{DekuError}
use Rattle.deku_bits.specs.Standings.{Standing}
use Rattle.deku_bits.specs.Outcomes.{Meaning}

-- From s, if no device fails, the only result is x, and t is left.
abbrev pub Gives : {A V : Type 0} → Meaning A V → Standing A → V → Standing A → Type 0
Gives {A} {V} m s x t = (r : Result V DekuError) (u : Standing A) → m false s r u → (r ≡ Ok x) × (u ≡ t)
