-- Texts of words and lines.
use Rattle.std.specs.Prelude.{ℕ, List, [], ◌∷◌, ◌++◌, map, String, string_bytes}

-- The bytes of texts.
abbrev pub words_of : {A : Type 0} → List (String A) → List (List ℕ)
words_of texts = map string_bytes texts

-- A text as a line.
abbrev pub line : List ℕ → List ℕ
line text = text ++ 10 ∷ []
