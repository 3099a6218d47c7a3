use Rattle.std.specs.Prelude.{◌↔◌}
use Rattle.std.proofs.Common.{drop}
use Rattle.deku_pieces.specs.Ending.{IsEnded}
use Rattle.deku_pieces.proofs.until.are_ended.Given as goal

abbrev pub invariant-loop-place : goal.invariant-loop-place
invariant-loop-place g l = IsEnded g.C.Last.last_of l.items ↔ IsEnded g.C.Last.last_of (drop l.place l.items)
