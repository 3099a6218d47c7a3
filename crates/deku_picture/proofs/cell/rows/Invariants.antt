use Rattle.std.proofs.Common.{List, ◌++◌, length}
use Rattle.std.specs.Global.{Vec}
use Rattle.deku_picture.specs.declared.cell.Cell.{Cell}
use Rattle.deku_picture.specs.Cells.{AreRows}
use Rattle.deku_picture.proofs.cell.rows.Given as goal

abbrev pub invariant-loop-rest : goal.invariant-loop-rest
invariant-loop-rest l = (more : List (Vec Cell)) → AreRows l.rest more → AreRows l.places (l.rows.items ++ more)

abbrev pub decreases-loop-rest : goal.decreases-loop-rest
decreases-loop-rest l = length l.rest
