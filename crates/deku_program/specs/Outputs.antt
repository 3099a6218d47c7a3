-- What an output takes of a text.
use Rattle.std.specs.Prelude.{◌≡◌, ℕ, ◌<◌, List, ◌++◌, length, Option}
use Rattle.std.specs.Io.KnownBytes.{Appends}

-- The text was written except for this rest of it.
pub record IsGivenBut (rest : List ℕ) (before after : Option (List ℕ)) (text : List ℕ) : Type 0 where
  pub front : List ℕ
  pub cut : text ≡ front ++ rest
  pub given : Appends before after front

-- A beginning of the text was written, perhaps all of it.
abbrev pub IsBegun : Option (List ℕ) → Option (List ℕ) → List ℕ → Type 0
IsBegun before after text = (rest : List ℕ) × IsGivenBut rest before after text

-- The text was not written to its end.
abbrev pub IsCutShort : Option (List ℕ) → Option (List ℕ) → List ℕ → Type 0
IsCutShort before after text = (rest : List ℕ) × (0 < length rest) × IsGivenBut rest before after text
