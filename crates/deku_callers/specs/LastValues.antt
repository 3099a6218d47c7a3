-- The last value of a key in a list of pairs.
use Rattle.std.specs.Prelude.{ℕ, List, [], ◌∷◌, Option, None, Some, if◌then◌else◌, ◌==◌}

-- The first of two values, if it is there, and otherwise the second.
abbrev pub first_some : Option ℕ → Option ℕ → Option ℕ
first_some (Some v) other = Some v
first_some None other = other

-- The value of the last pair that has the key, or none if no pair has it.
abbrev pub last_value : ℕ → List (ℕ × ℕ) → Option ℕ
last_value key [] = None
last_value key (p ∷ ps) = first_some (last_value key ps) (if p.0 == key then Some p.1 else None)
