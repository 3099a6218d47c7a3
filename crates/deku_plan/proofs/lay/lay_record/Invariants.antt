use Rattle.std.proofs.Common.{◌≡◌, ◌+◌, ◌++◌, length, take}
use Rattle.deku_plan.specs.Plans.{widths}
use Rattle.deku_plan.specs.Laying.{row_bits, IsHeld, laid_count, laid_bits}
use Rattle.deku_plan.proofs.lay.lay_record.Given as goal

abbrev pub invariant-loop-place : goal.invariant-loop-place
invariant-loop-place l = (laid_bits l.out l.laid ≡ laid_bits l.initial.out l.fn.from ++ row_bits (take l.place l.steps) (take l.place l.values))
    × (laid_count l.laid ≡ laid_count l.fn.from + widths (take l.place l.steps))
    × IsHeld l.laid
    × (length l.out ≡ length l.initial.out)
