use Rattle.std.proofs.Common.{◌≡◌, ℕ, List, [], ◌∷◌, ◌++◌, ◌≤◌, ◌<◌, map, arith}
use Rattle.std.proofs.lemmas.List.{map-append}
use Rattle.deku_tokens.specs.declared.place.Span.{Span}
use Rattle.deku_tokens.specs.declared.token.Token.{Token}
use Rattle.deku_tokens.specs.Spans.{LieBetween}

-- spans up to a place are spans up to a later one
pub lie_further : (from to more : ℕ) (spans : List Span) → LieBetween from spans to → to ≤ more → LieBetween from spans more
lie_further from to more [] h le = omega arith
lie_further from to more (s ∷ spans) h le = (h.0, h.1, lie_further s.end to more spans h.2 le)

-- and one more span after them
pub lie_and_one : (from to : ℕ) (spans : List Span) (s : Span) → LieBetween from spans to → to ≤ s.start → s.start < s.end → LieBetween from (spans ++ s ∷ []) s.end
lie_and_one from to [] s h le lt = (omega arith, lt, omega arith)
lie_and_one from to (r ∷ spans) s h le lt = (h.0, h.1, lie_and_one r.end to spans s h.2 le lt)

-- the spans of tokens, of which one more was pushed
pub pushed_lies : (from to : ℕ) (old new : List Token) (t : Token) → new ≡ old ++ t ∷ [] → LieBetween from (map (λ (t : Token). t.span) old) to → to ≤ t.span.start → t.span.start < t.span.end → LieBetween from (map (λ (t : Token). t.span) new) t.span.end
pushed_lies from to old new t e h le lt = rw (e, map-append) (lie_and_one from to (map (λ (t : Token). t.span) old) t.span h le lt)

-- the spans of the same tokens, up to a later place
pub kept_lie : (from to more : ℕ) (old new : List Token) → new ≡ old → LieBetween from (map (λ (t : Token). t.span) old) to → to ≤ more → LieBetween from (map (λ (t : Token). t.span) new) more
kept_lie from to more old new e h le = rw e (lie_further from to more (map (λ (t : Token). t.span) old) h le)
