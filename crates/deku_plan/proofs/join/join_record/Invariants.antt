use Rattle.std.proofs.Common.{◌≡◌, ◌+◌, ◌*◌, ◌++◌, length, take}
use Rattle.deku_bits.specs.Bits.{bits_in}
use Rattle.deku_plan.specs.Plans.{widths}
use Rattle.deku_plan.specs.Laying.{row_bits}
use Rattle.deku_plan.specs.Joining.{AreParts, IsJoined, joined_count, joined_bits}
use Rattle.deku_plan.proofs.join.join_record.Given as goal

abbrev pub invariant-loop-place : goal.invariant-loop-place
invariant-loop-place l = (joined_bits l.out l.joined ≡ bits_in (take l.fn.from l.initial.out) ++ row_bits (take l.place l.steps) (take l.place l.values))
    × (joined_count l.joined ≡ 8 * l.fn.from + widths (take l.place l.steps))
    × IsJoined l.joined
    × AreParts 0 (take l.place l.steps) (take l.place l.parts) l.joined.held
    × (length l.out ≡ length l.initial.out)
