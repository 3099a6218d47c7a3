use Rattle.std.proofs.Common.{◌≡◌, ◌*◌, length, map, take}
use Rattle.deku_bits.specs.Pieces.{total}
use Rattle.deku_fields.specs.Items.{field_shape}
use Rattle.deku_plan.specs.Records.{records, AreAt}
use Rattle.deku_plan.proofs.plan.slice.cut_records.Given as goal

abbrev pub invariant-loop : goal.invariant-loop
invariant-loop l = (l.place ≡ l.counter * length l.fields)
    × (l.bit ≡ l.counter * total (map field_shape l.fields))
    × AreAt (records l.counter l.fields) l.bytes 0 (take l.place l.out)
