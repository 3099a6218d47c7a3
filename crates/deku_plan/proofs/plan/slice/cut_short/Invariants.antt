use Rattle.std.proofs.Common.{◌≡◌, ◌+◌, length, map, take}
use Rattle.deku_bits.specs.Pieces.{total}
use Rattle.deku_fields.specs.Items.{field_shape}
use Rattle.deku_plan.specs.Records.{AreAt}
use Rattle.deku_plan.proofs.plan.slice.cut_short.Given as goal

abbrev pub invariant-loop-place : goal.invariant-loop-place
invariant-loop-place l = (l.at ≡ l.bit + total (map field_shape (take l.place l.fields)))
    × (length l.out ≡ length l.initial.out)
    × AreAt (take l.place l.fields) l.bytes l.bit (take l.place l.out)
