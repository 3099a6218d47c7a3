use Rattle.std.proofs.Common.{◌≤◌, ◌+◌, [], ◌∷◌, ◌++◌, take}
use Rattle.deku_picture.specs.Cells.{AreCells}
use Rattle.deku_picture.proofs.cell.joined.Given as goal

abbrev pub invariant-loop-place : goal.invariant-loop-place
invariant-loop-place l = AreCells (l.fn.first ∷ take l.place-index l.rest) (l.cells.items ++ l.run ∷ []) × (l.run.width ≤ l.place-index + 1)
