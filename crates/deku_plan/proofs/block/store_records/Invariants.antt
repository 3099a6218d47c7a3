use Rattle.std.proofs.Common.{◌≡◌, ◌+◌, ◌*◌, get_or, length, take}
use Rattle.deku_bits.specs.Bits.{bits_in}
use Rattle.deku_plan.specs.Blocks.{all_sizes, words_bits}
use Rattle.deku_plan.proofs.block.store_records.Given as goal

abbrev pub invariant-loop-row : goal.invariant-loop-row
invariant-loop-row l = (l.place ≡ l.row * all_sizes l.sizes)
    × (length l.out ≡ length l.initial.out)
    × (bits_in (take l.place l.out) ≡ words_bits l.row l.sizes (λ r k. get_or l.words (k * l.fn.count + r) 0))
