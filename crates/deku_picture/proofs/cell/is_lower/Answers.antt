use Rattle.std.proofs.Common.{rules}
use Rattle.deku_picture.proofs.cell.is_lower.Goals as goal

pub returns-then-first-next : goal.returns-then-first-next
returns-then-first-next c = search rules

pub returns : goal.returns
returns c = search rules
