use Rattle.std.proofs.Common.{ℕ, ◌<◌, None, length, get_or}
use Rattle.deku_fields.specs.Places.{IsMarked}
use Rattle.deku_fields.proofs.picture.mark_field.Given as goal

abbrev pub invariant-loop-i : goal.invariant-loop-i
invariant-loop-i l = (k : ℕ) → k < length l.cells → IsMarked l.fields l.index l.i k (get_or l.cells k None)
