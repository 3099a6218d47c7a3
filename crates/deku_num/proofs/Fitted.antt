-- Numbers that fit a field: the word that is written for a value, and where there is none.
use Rattle.std.proofs.Common.{ℕ, zero, suc, true, false, ℤ, pos, ◌-ℤ◌, subst, ◌*◌, ◌-◌, ◌%◌, ◌^◌, ◌<◌, ◌≤◌, ◌≡◌, Bool, List, length, sym, ap, ap₂, ◌∙◌, arith, pow-suc}
use Rattle.deku_bits.specs.declared.ctx.Order.{Order}
use Rattle.deku_bits.specs.declared.ctx.Order.TheVariants.{Lsb0}
use Rattle.deku_bits.specs.Bits.{groups, word_of}
use Rattle.deku_num.specs.declared.ctx.Endian.TheVariants.{Little, Big}
use Rattle.deku_num.specs.declared.ctx.Endian.{Endian}
use Rattle.deku_num.specs.declared.ctx.Layout.{Layout}
use Rattle.deku_num.specs.NumberLaws.{Within, residue}
use Rattle.deku_num.specs.Numbers.{NumberType, width, IsAllowed, IsEvenWhere, number, value, with_sign, IsFieldOf, IsWordFor}
use Rattle.deku_num.proofs.Chunked.{listed, number-inj, within}
use Rattle.deku_num.proofs.Values.{eights, plain, with_sign-signed, signed_high}
use Rattle.deku_num.proofs.Listing.{residue-lt, signed_listed, unsigned_listed, unsigned_list}
use Rattle.deku_num.proofs.Turned.{word_is, word_below}

-- ---- the word of a value
-- the one list that has the word has the number
pub numbered : (e : Endian) (o : Order) (n m w : ℕ) → Within e o n m → ((s : List Bool) → length s ≡ n → m ≡ number e o s → w ≡ word_of o s)
    → (w < 2 ^ n) × ((s : List Bool) → length s ≡ n → word_of o s ≡ w → number e o s ≡ m)
numbered e o n m w h is =
    let r = listed e o n m h in
    let v : word_of o r.0 ≡ w = sym (is r.0 r.1 (sym r.2)) in
    let below : word_of o r.0 < 2 ^ n = rw r.1 at (word_below o r.0) in (
      rw v at below,
      λ s l q. ap (number e o) (number-inj Little o s r.0 (l ∙ sym r.1) (sym (word_is o s) ∙ q ∙ sym v ∙ word_is o r.0)) ∙ r.2,
    )

pub unsigned_word_for : (t : NumberType) (l : Layout) (v w : ℕ) → t.signed ≡ false → Within l.endian l.order (width t l) v
    → ((s : List Bool) → length s ≡ width t l → v ≡ number l.endian l.order s → w ≡ word_of l.order s) → IsWordFor t l (pos v) w
unsigned_word_for t l v w g h is =
    let r = numbered l.endian l.order (width t l) v w h is in
    record { below = r.0; list = λ s k q. unsigned_list t l v s g k (r.1 s k q) }

pub unsigned_unfit : (t : NumberType) (l : Layout) (v : ℕ) → t.signed ≡ false → (Within l.endian l.order (width t l) v → ⊥)
    → (s : List Bool) → IsFieldOf t l (pos v) s → ⊥
unsigned_unfit t l v g out s h =
    let r = unsigned_listed t l v s g h in
    out (rw (r.0, r.1) at (within l.endian l.order s))

-- a signed field's number is within its range
pub residue_within : (t : NumberType) (l : Layout) (v : ℤ) → IsAllowed t l → t.signed ≡ true → Within l.endian l.order (width t l) (residue v (width t l))
residue_within t l v ok g =
    (plain l.endian l.order (width t l) (subst (λ b. IsEvenWhere b l.endian l.order (width t l)) g ok.even) (residue v (width t l))).1 (residue-lt v (width t l))

signed_list : (t : NumberType) (l : Layout) (v : ℤ) (s : List Bool) → t.signed ≡ true → with_sign true (width t l) (residue v (width t l)) ≡ v → length s ≡ width t l
    → number l.endian l.order s ≡ residue v (width t l) → IsFieldOf t l v s
unfolding value
signed_list t l v s g fits k e = record {
  wide = k;
  worth = ap (λ b. with_sign b (length s) (number l.endian l.order s)) g ∙ ap₂ (λ n m. with_sign true n m) k e ∙ fits;
}

pub signed_word_for : (t : NumberType) (l : Layout) (v : ℤ) (w : ℕ) → IsAllowed t l → t.signed ≡ true → with_sign true (width t l) (residue v (width t l)) ≡ v
    → ((s : List Bool) → length s ≡ width t l → residue v (width t l) ≡ number l.endian l.order s → w ≡ word_of l.order s) → IsWordFor t l v w
signed_word_for t l v w ok g fits is =
    let r = numbered l.endian l.order (width t l) (residue v (width t l)) w (residue_within t l v ok g) is in
    record { below = r.0; list = λ s k q. signed_list t l v s g fits k (r.1 s k q) }

pub signed_unfit : (t : NumberType) (l : Layout) (v : ℤ) → IsAllowed t l → t.signed ≡ true → (with_sign true (width t l) (residue v (width t l)) ≡ v → ⊥)
    → (s : List Bool) → IsFieldOf t l v s → ⊥
unfolding value
signed_unfit t l v ok g out s h =
    let r = signed_listed t l v s ok g h in
    out (sym (ap₂ (λ n m. with_sign true n m) r.0 r.1) ∙ sym (ap (λ b. with_sign b (length s) (number l.endian l.order s)) g) ∙ h.worth)

pub worth_high : (n m : ℕ) → 0 < n → 2 ^ (n - 1) ≤ m → with_sign true n m ≡ pos m -ℤ pos (2 ^ (n - 1) * 2)
worth_high zero m p h = absurd (omega arith)
worth_high (suc k) m p h = let e : suc k - 1 ≡ k = omega arith in rw e (with_sign-signed k m ∙ signed_high (2 ^ k) m (rw e at h))

pub half_twice : (n : ℕ) → 0 < n → 2 ^ (n - 1) * 2 ≡ 2 ^ n
half_twice zero p = absurd (omega arith)
half_twice (suc k) p = let e : suc k - 1 ≡ k = omega arith in rw e (sym (pow-suc 2 k))

-- the range of big `Lsb0`, as the code looks at it
pub within_split : (n v k j : ℕ) → k ≡ groups n → j ≡ groups n - 1
    → ((v < 2 ^ (8 * k)) × (v % 256 < 2 ^ (n - 8 * j)) → Within Big Lsb0 n v) × (Within Big Lsb0 n v → (v < 2 ^ (8 * k)) × (v % 256 < 2 ^ (n - 8 * j)))
within_split n v k j e f = rw (e, f, eights (groups n)) (λ h. h, λ h. h)
