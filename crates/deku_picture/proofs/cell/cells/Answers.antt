use Rattle.std.proofs.Common.{rules}
use Rattle.deku_picture.proofs.cell.cells.Goals as goal

pub returns-in-Some : goal.returns-in-Some
returns-in-Some c = search rules
