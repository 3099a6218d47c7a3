use Rattle.std.proofs.Common.{◌≡◌, ◌*◌, length, take}
use Rattle.deku_plan.specs.Plans.{widths}
use Rattle.deku_plan.specs.Laying.{turns, row_bits, IsHeld, laid_count, laid_bits}
use Rattle.deku_plan.proofs.lay.lay_records.Given as goal

abbrev pub invariant-loop : goal.invariant-loop
invariant-loop l = (l.place ≡ l.counter * length l.steps)
    × (laid_bits l.out l.laid ≡ row_bits (turns l.counter l.steps) (take l.place l.values))
    × (laid_count l.laid ≡ l.counter * widths l.steps)
    × IsHeld l.laid
    × (length l.out ≡ length l.initial.out)
