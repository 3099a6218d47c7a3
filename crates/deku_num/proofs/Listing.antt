-- The list that is worth a value: its number; and values modulo two to the power of n.
use Rattle.std.proofs.Common.{pos, negsuc, ℕ, zero, suc, ◌+◌, ◌*◌, ◌-◌, ◌/◌, ◌%◌, ◌^◌, ◌<◌, ◌≤◌, ◌≡◌, Bool, true, false, List, length, ℤ, ap, ap₂, sym, ◌∙◌, arith, pow-suc, ◌-ℤ◌, inl, inr, ⊎_elim, mod-eq_of_lt, mod-lt}
use Rattle.std.proofs.Math.Nat.{mod-add-div}
use Rattle.std.proofs.lemmas.Nat.{pow_pos, pow-add}
use Rattle.std.proofs.lemmas.Int.{ints}
use Rattle.std.proofs.lemmas.Bool.{cases_lt}
use native.Mathlib.Nat.{add-mul-mod_self_left}
use Rattle.deku_num.specs.declared.ctx.Layout.{Layout}
use Rattle.deku_num.specs.Numbers.{NumberType, number, with_sign, width, value, IsAllowed, IsFieldOf}
use Rattle.deku_num.specs.NumberLaws.{ResidueLaw, residue}
use Rattle.deku_num.proofs.Values.{signed_low, signed_high, with_sign-signed}
use Rattle.deku_num.proofs.Ranges.{signed_below}

-- the n lowest bits, all set
pub ones : (n : ℕ) → n ≤ 128 → (2 ^ 128 - 1) % 2 ^ n ≡ 2 ^ n - 1
ones n h =
    let M : ℕ = 2 ^ n in
    let K : ℕ = 2 ^ (128 - n) in
    let e : n + (128 - n) ≡ 128 = omega arith in
    let all : 2 ^ 128 ≡ M * K = ap (λ x. 2 ^ x) (sym e) ∙ pow-add 2 n (128 - n) in
    let p : 0 < M = pow_pos n in
    let q : 0 < K = pow_pos (128 - n) in
    ap (λ x. x % M) (ap (λ x. x - 1) all ∙ parts M K p q) ∙ add-mul-mod_self_left (M - 1) M (K - 1) ∙ mod-eq_of_lt (let l : M - 1 < M = omega arith in l)
  where
    more : (M k : ℕ) → 0 < M → M * suc k - 1 ≡ (M - 1) + M * k
    more M k p = omega arith

    parts : (M K : ℕ) → 0 < M → 0 < K → M * K - 1 ≡ (M - 1) + M * (K - 1)
    parts M zero p q = absurd (omega arith)
    parts M (suc k) p q =
        let e : suc k - 1 ≡ k = omega arith in
        rw e (more M k p)

-- ---- a value modulo two to the power of n
pub residue-lt : (v : ℤ) (n : ℕ) → residue v n < 2 ^ n
residue-lt (pos m) n = mod-lt m (pow_pos n)
residue-lt (negsuc m) n = let p : 0 < 2 ^ n = pow_pos n in omega arith

below_zero : (m T : ℕ) → m < T → pos m -ℤ pos T ≡ negsuc (T - 1 - m)
below_zero m T h = omega (arith, ints)

-- of a number of n bits in two's complement it is the number
pub residue-with_sign : (n m : ℕ) → m < 2 ^ n → residue (with_sign true n m) n ≡ m
residue-with_sign zero m h = mod-eq_of_lt h
residue-with_sign (suc k) m h = ⊎_elim
    (λ (l : m < 2 ^ k). ap (λ v. residue v (suc k)) (with_sign-signed k m ∙ signed_low (2 ^ k) m l) ∙ mod-eq_of_lt h)
    (λ (l : 2 ^ k ≤ m).
    let T : ℕ = 2 ^ suc k in
    let w : 2 ^ k * 2 ≡ T = sym (pow-suc 2 k) in
    let low : T - 1 - m < T = omega arith in
    let e : with_sign true (suc k) m ≡ negsuc (T - 1 - m) =
    with_sign-signed k m ∙ signed_high (2 ^ k) m l ∙ ap (λ x. pos m -ℤ pos x) w ∙ below_zero m T h in
    let r : (T - 1 - m) % T ≡ T - 1 - m = mod-eq_of_lt low in
    ap (λ v. residue v (suc k)) e ∙ ap (λ x. T - 1 - x) r ∙ omega arith)
    (cases_lt m (2 ^ k))

-- it differs from the value by a multiple of two to the power of n
below_by : (m r q M : ℕ) → r < M → r + q ≡ m → negsuc m ≡ pos (M - 1 - r) -ℤ pos (M + q)
below_by m r q M l e = omega (arith, ints, l, e)

pub residue_law : ResidueLaw
residue_law (pos m) n = (residue-lt (pos m) n, (m / 2 ^ n, inl (ap pos (sym (mod-add-div m (2 ^ n))))))
residue_law (negsuc m) n =
    let M : ℕ = 2 ^ n in
    let more : M + M * (m / M) ≡ M * suc (m / M) = omega arith in
    (residue-lt (negsuc m) n, (suc (m / M), inr (below_by m (m % M) (M * (m / M)) M (mod-lt m (pow_pos n)) (mod-add-div m M) ∙ ap (λ x. pos (M - 1 - m % M) -ℤ pos x) more)))

-- ---- the list of a value
-- the number of a list that is worth a signed value
pub signed_listed : (t : NumberType) (l : Layout) (v : ℤ) (s : List Bool) → IsAllowed t l → t.signed ≡ true → IsFieldOf t l v s
    → (length s ≡ width t l) × (number l.endian l.order s ≡ residue v (width t l))
unfolding value
signed_listed t l v s ok g h =
    let n : ℕ = length s in
    let m : ℕ = number l.endian l.order s in
    let e : with_sign true n m ≡ v = ap (λ x. with_sign x n m) (sym g) ∙ h.worth in (
      h.wide,
      sym (residue-with_sign n m (signed_below t l s ok h.wide g)) ∙ ap₂ (λ x k. residue x k) e h.wide,
    )

unsigned_worth : (b : Bool) (n m : ℕ) → b ≡ false → with_sign b n m ≡ pos m
unsigned_worth b n m e = ap (λ x. with_sign x n m) e

-- the number of a list that is worth an unsigned value
pub unsigned_listed : (t : NumberType) (l : Layout) (v : ℕ) (s : List Bool) → t.signed ≡ false → IsFieldOf t l (pos v) s
    → (length s ≡ width t l) × (number l.endian l.order s ≡ v)
unfolding value
unsigned_listed t l v s g h =
    let e : pos (number l.endian l.order s) ≡ pos v = sym (unsigned_worth t.signed (length s) (number l.endian l.order s) g) ∙ h.worth in
    (h.wide, cc)

pub unsigned_list : (t : NumberType) (l : Layout) (v : ℕ) (s : List Bool) → t.signed ≡ false → length s ≡ width t l
    → number l.endian l.order s ≡ v → IsFieldOf t l (pos v) s
unfolding value
unsigned_list t l v s g w e = record {
  wide = w;
  worth = unsigned_worth t.signed (length s) (number l.endian l.order s) g ∙ ap pos e;
}
