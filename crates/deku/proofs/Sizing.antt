-- Values are written as exactly the bits that a call returns as the size of their type.
use Rattle.std.proofs.Common.{◌≡◌, ℕ, zero, suc, ◌+◌, ◌*◌, ◌^◌, ◌<◌, Bool, true, false, cond, ltb, List, [], ◌∷◌, length, Option, None, Some, ℤ, refl, ap, ◌∙◌, subst, ltb-true, arith}
use Rattle.std.proofs.lemmas.Bool.{lt-ltb}
use Rattle.std.specs.List.{All}
use Rattle.deku_bits.specs.Standings.{Output}
use Rattle.deku_bits.specs.Outcomes.{Meaning}
use Rattle.deku_num.specs.Sizes.{within_usize, both, bits_times}
use Rattle.deku_num.specs.declared.kind.NumberType.{NumberType}
use Rattle.deku_num.specs.declared.ctx.Layout.{Layout}
use Rattle.deku_num.specs.NumberCalls.{WritesNumber, IsWhole}
use Rattle.deku_meanings.specs.Composing.{Both}
use Rattle.deku_writing.specs.Composing.{WritesEach}
use Rattle.deku.specs.Extents.{IsSized, KeepsSize}
use Rattle.deku.proofs.Extending.{joined_sized, items_sized}
use Rattle.deku.proofs.Whole.{number_sized}

-- a size that is returned is the known one, and fits
fitted : (x n : ℕ) (p : Bool) → ltb x (2 ^ 64) ≡ p → cond p (Some x) None ≡ Some n → (x ≡ n) × (x < 2 ^ 64)
fitted x n true a e = (cc, ltb-true x (2 ^ 64) a)
fitted x n false a e = absurd (cc)

fits : (x : ℕ) → x < 2 ^ 64 → within_usize (Some x) ≡ Some x
fits x h = ap (λ t. cond t (Some x) None) (lt-ltb x (2 ^ 64) h)

-- so many bits, where they fit, are the size that is returned
pub kept_at : (x : ℕ) (m : Meaning Output (Unit {0})) → IsSized x m → KeepsSize (Some x) m
kept_at x m p = record { answered = λ n e. let a = fitted x n (ltb x (2 ^ 64)) refl e in subst (λ k. IsSized k m) a.0 p }

-- one after the other
pub joined_kept : (x y : Option ℕ) (m o : Meaning Output (Unit {0})) → KeepsSize x m → KeepsSize y o → KeepsSize (both x y) (Both m o)
joined_kept (Some x) (Some y) m o p q = record {
  answered = λ n e.
      let a = fitted (x + y) n (ltb (x + y) (2 ^ 64)) refl e in
      subst (λ k. IsSized k (Both m o)) a.0 (joined_sized m o x y (p.answered x (fits x (omega (arith, a.1)))) (q.answered y (fits y (omega (arith, a.1)))));
}
joined_kept None None m o p q = record { answered = λ n e. absurd (cc) }
joined_kept None (Some y) m o p q = record { answered = λ n e. absurd (cc) }
joined_kept (Some x) None m o p q = record { answered = λ n e. absurd (cc) }

-- items of one size
all_fitted : {V : Type 0} (m : V → Meaning Output (Unit {0})) (x : ℕ) (vs : List V) → x < 2 ^ 64 → All (λ v. KeepsSize (Some x) (m v)) vs → All (λ v. IsSized x (m v)) vs
all_fitted m x vs h p = λ i d l. (p i d l).answered x (fits x h)

once : (k x : ℕ) → suc k * x < 2 ^ 64 → x < 2 ^ 64
once k x l = omega (arith, l)

pub items_kept : {V : Type 0} (m : V → Meaning Output (Unit {0})) (x : Option ℕ) (k : ℕ) (vs : List V) → length vs ≡ k → All (λ v. KeepsSize x (m v)) vs → KeepsSize (bits_times k x) (WritesEach m vs)
items_kept m x zero [] z h = kept_at 0 _ (items_sized m 0 [] (λ i d l. absurd (omega (arith, l))))
items_kept m x zero (v ∷ vs) z h = absurd (omega (arith, z))
items_kept m None (suc k) vs z h = record { answered = λ n e. absurd (cc) }
items_kept m (Some x) (suc k) vs z h = record {
  answered = λ n e.
      let a = fitted (suc k * x) n (ltb (suc k * x) (2 ^ 64)) refl e in
      let same : length vs * x ≡ n = ap (λ l. l * x) z ∙ a.0 in
      subst (λ l. IsSized l (WritesEach m vs)) same (items_sized m x vs (all_fitted m x vs (once k x a.1) h));
}

-- numbers
pub number_kept : (t : NumberType) (l : Layout) (v : ℤ) → IsWhole t l v → KeepsSize (Some t.bits) (WritesNumber t l v)
number_kept t l v i = kept_at t.bits _ (number_sized t l v i)
