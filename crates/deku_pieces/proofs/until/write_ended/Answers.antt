use Rattle.std.proofs.Common.{rules}
use Rattle.deku_pieces.proofs.until.write_ended.Goals as goal

pub returns-then-not-are_ended : goal.returns-then-not-are_ended
returns-then-not-are_ended g c = search rules

pub returns : goal.returns
returns g c = search rules
