use Rattle.std.proofs.Common.{◌≡◌, ℕ, ◌*◌, ◌<◌, None, length, get_or, map}
use Rattle.deku_bits.specs.Bits.{groups}
use Rattle.deku_bits.specs.Pieces.{total}
use Rattle.deku_fields.specs.Items.{field_shape}
use Rattle.deku_fields.specs.Places.{IsMarked, start}
use Rattle.deku_fields.proofs.picture.mark_fields.Given as goal

abbrev pub invariant-loop-index : goal.invariant-loop-index
invariant-loop-index l = (l.at ≡ start l.fields l.index)
    × (length l.cells ≡ 8 * groups (total (map field_shape l.fields)))
    × ((k : ℕ) → k < length l.cells → IsMarked l.fields l.index 0 k (get_or l.cells k None))
