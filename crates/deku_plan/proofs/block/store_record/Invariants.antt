use Rattle.std.proofs.Common.{◌≡◌, ◌+◌, ◌*◌, ◌++◌, get_or, length, take}
use Rattle.deku_bits.specs.Bits.{bits_in}
use Rattle.deku_plan.specs.Blocks.{all_sizes, word_bits}
use Rattle.deku_plan.proofs.block.store_record.Given as goal

abbrev pub invariant-loop-group : goal.invariant-loop-group
invariant-loop-group l = (l.place ≡ l.fn.from + all_sizes (take l.group l.sizes))
    × (length l.out ≡ length l.initial.out)
    × (bits_in (take l.place l.out) ≡ bits_in (take l.fn.from l.initial.out) ++ word_bits (take l.group l.sizes) (λ k. get_or l.words (k * l.fn.count + l.fn.row) 0))
