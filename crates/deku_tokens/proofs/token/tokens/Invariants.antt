use Rattle.std.proofs.Common.{◌≤◌, ◌-◌, map}
use Rattle.deku_tokens.specs.Spans.{LieBetween}
use Rattle.deku_tokens.proofs.token.tokens.Given as goal

abbrev pub invariant-loop-at : goal.invariant-loop-at
invariant-loop-at l = record {
  ordered : l.at ≤ l.part.end;
  spans : LieBetween l.part.start (map (λ t. t.span) l.tokens.items) l.at;
}

abbrev pub decreases-loop-at : goal.decreases-loop-at
decreases-loop-at l = l.part.end - l.at
