-- Below zero the lowest bits are those of all ones without those of what is missing to minus one.
use Rattle.std.proofs.Common.{ap, ap₂, arith, mod-lt, negsuc, rules, sym, ℕ, ℤ, ◌%◌, ◌-◌, ◌<◌, ◌^◌, ◌∙◌, ◌≡◌, ◌≤◌}
use mir.Syntax.{w128}
use Rattle.std.proofs.lemmas.Int.{to_z-of_z}
use Rattle.std.proofs.lemmas.Nat.{pow_pos}
use Rattle.deku_num.specs.NumberLaws.{residue}
use Rattle.deku_num.proofs.Listing.{ones}
use Rattle.deku_num.proofs.kernel.residue_of.Goals as goal

-- what is taken away is no more
no_more : (n k a b : ℕ) → n ≤ 128 → a ≡ (2 ^ 128 - 1) % 2 ^ n → b ≡ k % 2 ^ n → b ≤ a
no_more n k a b h p q =
    let r : k % 2 ^ n < 2 ^ n = mod-lt k (pow_pos n) in
    omega (arith, p ∙ ones n h)

-- and what is left is the residue
taken_off : (v : ℤ) (n k a b : ℕ) → n ≤ 128 → v ≡ negsuc k → a ≡ (2 ^ 128 - 1) % 2 ^ n → b ≡ k % 2 ^ n → a - b ≡ residue v n
taken_off v n k a b h e p q = ap₂ (λ x y. x - y) (p ∙ ones n h) q ∙ sym (ap (λ x. residue x n) e)

pub overflow_sub-result : goal.overflow_sub-result
overflow_sub-result c = no_more c.args.n c.below_zero.result _ _ c.requires (c.low_bits-else-value-ge0.ensures) (c.low_bits-else-value-ge0-2.ensures)

pub returns-else-value-ge0 : goal.returns-else-value-ge0
returns-else-value-ge0 c =
    taken_off c.args.value c.args.n c.below_zero.result _ _ c.requires (sym (to_z-of_z w128 c.args.value (c.ranges.value)) ∙ c.below_zero.ensures)
    (c.low_bits-else-value-ge0.ensures) (c.low_bits-else-value-ge0-2.ensures)

pub overflow_cast-value : goal.overflow_cast-value
overflow_cast-value c = search rules

pub low_bits-requires : goal.low_bits-requires
low_bits-requires c = search rules

pub low_bits-requires-else-value-ge0 : goal.low_bits-requires-else-value-ge0
low_bits-requires-else-value-ge0 c = search rules

pub below_zero-requires : goal.below_zero-requires
below_zero-requires c = search rules

pub low_bits-requires-else-value-ge0-2 : goal.low_bits-requires-else-value-ge0-2
low_bits-requires-else-value-ge0-2 c = search rules

pub returns-then-value-ge0 : goal.returns-then-value-ge0
returns-then-value-ge0 c = search rules
