-- Lists that overwrite parts of others.
use Rattle.std.specs.Prelude.{ℕ, ◌+◌, List, ◌++◌, length, take, drop}

-- A list that is overwritten with another from a place on.
abbrev pub overlaid : {A : Type 0} → List A → ℕ → List A → List A
overlaid all place others = take place all ++ others ++ drop (place + length others) all
