-- Carries that are added again at each step are those of the sum.
use Rattle.std.proofs.Common.{◌≡◌, ℕ, ◌+◌, ◌-◌, ◌*◌, ◌≤◌, List, [], ◌∷◌, length, take, drop, slice_index_or, ap, sym, ◌∙◌, arith}
use Rattle.std.proofs.lemmas.List.{take_all}
use Rattle.deku_formats.specs.Checksum.{total_of, carried}

-- what is left of a part and then of the whole is what is left of the whole
carried_on : (n t : ℕ) → carried (carried n + t) ≡ carried (n + t)
carried_on n t = omega (arith)

-- a word more
pub stepped : (sum s : ℕ) (rest : List ℕ) → s ≡ carried (sum + (slice_index_or rest 0 0 * 256 + slice_index_or rest 1 0)) → 2 ≤ length rest
    → carried (sum + total_of rest) ≡ carried (s + total_of (take (length rest - 2) (drop 2 rest)))
stepped sum s [] e l = absurd (omega (arith, l))
stepped sum s (a ∷ []) e l = absurd (omega (arith, l))
stepped sum s (a ∷ b ∷ more) e l =
    let t = total_of more in
    let whole : carried (sum + (a * 256 + b + t)) ≡ carried (sum + (a * 256 + b) + t) = ap carried (omega (arith)) in
    let left : carried (sum + (a * 256 + b) + t) ≡ carried (s + t) = sym (ap (λ m. carried (m + t)) e ∙ carried_on (sum + (a * 256 + b)) t) in
    whole ∙ left ∙ ap (λ xs. carried (s + total_of xs)) (sym (take_all (length (a ∷ b ∷ more) - 2) more (omega (arith))))
