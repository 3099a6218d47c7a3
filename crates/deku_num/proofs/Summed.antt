-- The bits of two types together.
use Rattle.std.proofs.Common.{◌≡◌, ℕ, ◌+◌, ◌^◌, ◌≤◌, Bool, true, false, cond, Option, None, Some, ltb, refl, sym, ap, ◌∙◌, ltb-false, le-ltb, arith}
use Rattle.deku_num.specs.Sizes.{within_usize, both}

misfits : (n : ℕ) → 2 ^ 64 ≤ n → None ≡ within_usize (Some n)
misfits n h = sym (ap (λ t. cond t (Some n) None) (le-ltb n (2 ^ 64) h))

either_way : (n k : ℕ) (p q : Bool) → ltb n (2 ^ 64) ≡ p → ltb k (2 ^ 64) ≡ q → within_usize (both (cond p (Some n) None) (cond q (Some k) None)) ≡ within_usize (Some (n + k))
either_way n k true true a b = refl
either_way n k true false a b = misfits (n + k) (omega (arith, ltb-false k (2 ^ 64) b))
either_way n k false q a b = misfits (n + k) (omega (arith, ltb-false n (2 ^ 64) a))

none_behind : (x : Option ℕ) → both x None ≡ None
none_behind None = refl
none_behind (Some n) = refl

-- what does not fit alone does not fit with more
fitting_both : (a b : Option ℕ) → within_usize (both (within_usize a) (within_usize b)) ≡ within_usize (both a b)
fitting_both None b = refl
fitting_both (Some n) None = ap within_usize (none_behind (within_usize (Some n)))
fitting_both (Some n) (Some k) = either_way n k (ltb n (2 ^ 64)) (ltb k (2 ^ 64)) refl refl

pub summed : {r s t : Option ℕ} (a b : Option ℕ) → r ≡ within_usize a → s ≡ within_usize b → t ≡ within_usize (both r s) → t ≡ within_usize (both a b)
summed a b p q e = e ∙ rw (p, q) (fitting_both a b)
