use Rattle.std.proofs.Common.{◌≡◌, ◌*◌, length, take}
use Rattle.deku_bits.specs.Bits.{bits_in}
use Rattle.deku_plan.specs.Plans.{widths}
use Rattle.deku_plan.specs.Laying.{turns, row_bits}
use Rattle.deku_plan.proofs.join.join_records.Given as goal

abbrev pub invariant-loop : goal.invariant-loop
invariant-loop l = (l.place ≡ l.counter * length l.steps)
    × (bits_in (take l.byte l.out) ≡ row_bits (turns l.counter l.steps) (take l.place l.values))
    × (8 * l.byte ≡ l.counter * widths l.steps)
    × (length l.out ≡ length l.initial.out)
