use Rattle.std.specs.Prelude.{ℕ, List, [], ◌∷◌, ◌≤◌, ◌<◌}
use Rattle.deku_tokens.specs.declared.place.Span.{Span}

-- spans that are not empty, one after the other, from a place on up to another
abbrev pub LieBetween : ℕ → List Span → ℕ → Type 0
LieBetween from [] to = from ≤ to
LieBetween from (s ∷ spans) to = (from ≤ s.start) × (s.start < s.end) × LieBetween s.end spans to
