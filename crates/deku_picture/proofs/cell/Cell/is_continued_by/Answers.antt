use Rattle.std.proofs.Common.{rules}
use Rattle.deku_picture.proofs.cell.Cell.is_continued_by.Goals as goal

pub returns-in-None-None : goal.returns-in-None-None
returns-in-None-None c = search rules

pub returns-in-Some-Some : goal.returns-in-Some-Some
returns-in-Some-Some c = search rules

pub returns-in_default : goal.returns-in_default
returns-in_default c = search rules

pub returns-in_default-2 : goal.returns-in_default-2
returns-in_default-2 c = search rules
