use Rattle.std.proofs.Common.{◌≡◌, ℕ, ◌+◌, ◌*◌, ◌%◌, ◌^◌, ◌<◌, get_or, length, take, drop}
use Rattle.deku_plan.specs.Laying.{AreFitting}
use Rattle.deku_plan.specs.Blocks.{group_sizes, group_words}
use Rattle.deku_plan.proofs.block.join_fields.Given as goal

abbrev pub invariant-loop-place : goal.invariant-loop-place
invariant-loop-place l = (l.first ≡ length (group_sizes (take l.place l.parts)) * l.fn.count)
    × (length l.words ≡ length l.initial.words)
    × (l.excess ≡ 0 → (r k : ℕ) → r < l.fn.count
    → get_or l.words (k * l.fn.count + r) 0 ≡ group_words (take l.place l.parts) (take l.place (take (length l.steps) (drop (r * length l.steps) l.values))) k % 2 ^ 64)
    × (l.excess ≡ 0 → (r : ℕ) → r < l.fn.count → AreFitting (take l.place l.steps) (take l.place (take (length l.steps) (drop (r * length l.steps) l.values))))
