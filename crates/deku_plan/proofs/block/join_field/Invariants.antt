use Rattle.std.proofs.Common.{◌≡◌, ◌⊎◌, ℕ, ◌+◌, ◌*◌, ◌%◌, ◌^◌, ◌<◌, ◌≤◌, get_or, length}
use Rattle.deku_fields.specs.declared.list.Number.TheVariants.{Unsigned}
use Rattle.deku_plan.proofs.block.join_field.Given as goal

abbrev pub invariant-loop-row : goal.invariant-loop-row
invariant-loop-row l = (length l.words ≡ length l.initial.words)
    × ((j : ℕ) → (j < l.first) ⊎ (l.first + l.row ≤ j) → get_or l.words j 0 ≡ get_or l.initial.words j 0)
    × ((r n : ℕ) → r < l.row → get_or l.values (r * l.stride) (Unsigned 0) ≡ Unsigned n → l.high ≡ 0 → get_or l.words (l.first + r) 0 ≡ (get_or l.initial.words (l.first + r) 0 + n * l.part.scale) % 2 ^ 64)
    × (l.high ≡ 0 → (r : ℕ) → r < l.row → (n : ℕ) × (get_or l.values (r * l.stride) (Unsigned 0) ≡ Unsigned n) × (n ≤ l.low))
