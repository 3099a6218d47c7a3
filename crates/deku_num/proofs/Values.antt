-- The law of fields: the values in range are those that a list of the field's width has, and each has one list.
use Rattle.std.proofs.Common.{ℕ, zero, suc, ◌+◌, ◌*◌, ◌-◌, ◌%◌, ◌^◌, ◌<◌, ◌≤◌, ◌≡◌, Bool, true, false, cond, leb, List, length, ℤ, pos, negsuc, neg_ℤ, ◌-ℤ◌, ◌≤ℤ◌, ◌<ℤ◌, refl, ap, sym, ◌∙◌, subst, arith, ⊎_elim, mod-eq_of_lt, pow-suc}
use Rattle.std.proofs.lemmas.Nat.{pow-add}
use Rattle.std.proofs.lemmas.Int.{ints}
use Rattle.std.proofs.lemmas.Bool.{le-leb, lt-leb, cases_lt}
use native.Mathlib.Nat.{pow-succ', pow-le-pow_right}
use Rattle.deku_bits.specs.declared.ctx.Order.{Order}
use Rattle.deku_bits.specs.declared.ctx.Order.TheVariants.{Msb0, Lsb0}
use Rattle.deku_num.specs.declared.ctx.Endian.{Endian}
use Rattle.deku_num.specs.declared.ctx.Endian.TheVariants.{Little, Big}
use Rattle.deku_bits.specs.Bits.{groups}
use Rattle.deku_num.specs.NumberLaws.{Within, InRange, FieldLaw}
use Rattle.deku_num.specs.Numbers.{number, with_sign, width, IsEvenWhere, value}
use Rattle.deku_num.proofs.Chunked.{number-inj, within, listed}

-- ---- two's complement, with H for 2 ^ (n - 1)
abbrev pub signed : ℕ → ℕ → ℤ
signed H m = cond (leb H m) (pos m -ℤ pos (H * 2)) (pos m)

pub signed_low : (H m : ℕ) → m < H → signed H m ≡ pos m
unfolding number value
signed_low H m h = rw (lt-leb H m h) refl

pub signed_high : (H m : ℕ) → H ≤ m → signed H m ≡ pos m -ℤ pos (H * 2)
unfolding number value
signed_high H m h = rw (le-leb H m h) refl

signed_range : (H m : ℕ) → m < H * 2 → (neg_ℤ (pos H) ≤ℤ signed H m) × (signed H m <ℤ pos H)
unfolding number value
signed_range H m h = ⊎_elim
    (λ (low : m < H). rw (signed_low H m low) (omega (arith, ints), omega (arith, ints)))
    (λ (high : H ≤ m). rw (signed_high H m high) (omega (arith, ints), omega (arith, ints)))
    (cases_lt m H)

signed-inj : (H m n : ℕ) → m < H * 2 → n < H * 2 → signed H m ≡ signed H n → m ≡ n
unfolding number value
signed-inj H m n hm hn e = ⊎_elim
    (λ (a : m < H). ⊎_elim
    (λ (b : n < H). let q = sym (signed_low H m a) ∙ e ∙ signed_low H n b in omega (arith, ints))
    (λ (b : H ≤ n). let q = sym (signed_low H m a) ∙ e ∙ signed_high H n b in omega (arith, ints))
    (cases_lt n H))
    (λ (a : H ≤ m). ⊎_elim
    (λ (b : n < H). let q = sym (signed_high H m a) ∙ e ∙ signed_low H n b in omega (arith, ints))
    (λ (b : H ≤ n). let q = sym (signed_high H m a) ∙ e ∙ signed_high H n b in omega (arith, ints))
    (cases_lt n H))
    (cases_lt m H)

pub signed_onto : (H : ℕ) (v : ℤ) → neg_ℤ (pos H) ≤ℤ v → v <ℤ pos H → (m : ℕ) × (m < H * 2) × (signed H m ≡ v)
unfolding number value
signed_onto H (pos k) lo hi =
    let low : k < H = omega (arith, ints) in
    (k, omega arith, signed_low H k low)
signed_onto H (negsuc k) lo hi =
    let low : suc k ≤ H = omega (arith, ints) in
    let high : H ≤ H * 2 - suc k = omega arith in
    (H * 2 - suc k, omega arith, signed_high H (H * 2 - suc k) high ∙ omega (arith, ints))

-- ---- a number of n bits, with or without a sign
pub with_sign-signed : (n m : ℕ) → with_sign true (suc n) m ≡ signed (2 ^ n) m
unfolding number value
with_sign-signed n m = rw (pow-suc 2 n) refl

pub eights : (k : ℕ) → 2 ^ (8 * k) ≡ 256 ^ k
unfolding number value
eights zero = refl
eights (suc k) =
    let a : 8 * suc k ≡ 8 + 8 * k = omega arith in
    rw (a, pow-add 2 8 (8 * k), eights k, pow-succ' 256 k) refl

plain_short : (n m : ℕ) → n ≤ 8 → (Within Big Lsb0 n m → m < 2 ^ n) × (m < 2 ^ n → Within Big Lsb0 n m)
unfolding number value
plain_short zero m l = (λ w. w.0, λ h. (h, omega arith))
plain_short (suc n) m l =
    let g : groups (suc n) ≡ 1 = omega arith in
    let e : suc n - 8 * (1 - 1) ≡ suc n = omega arith in
    let b : 2 ^ suc n ≤ 256 = pow-le-pow_right {n = 2} (omega arith) {i = suc n} {j = 8} l in (
      λ w.
          let a : m < 256 = rw g at w.0 in
          rw (g, e, mod-eq_of_lt a) at w.1,
      λ h.
          let a : m < 256 = omega arith in
          (rw g a, rw (g, e, mod-eq_of_lt a) h),
    )

pub plain_whole : (n m : ℕ) → n % 8 ≡ 0 → (Within Big Lsb0 n m → m < 2 ^ n) × (m < 2 ^ n → Within Big Lsb0 n m)
unfolding number value
plain_whole zero m d = plain_short zero m (omega arith)
plain_whole (suc n) m d =
    let k : ℕ = groups (suc n) in
    let g : suc n ≡ 8 * k = omega arith in
    let e : suc n - 8 * (k - 1) ≡ 8 = omega arith in
    let p : 256 ^ k ≡ 2 ^ suc n = sym (ap (λ x. 2 ^ x) g ∙ eights k) in
    (λ w. rw p at w.0, λ h. (rw p h, rw e (omega arith)))

-- where a layout is allowed, the numbers of a signed field are those below 2 ^ n
pub plain : (e : Endian) (o : Order) (n : ℕ) → IsEvenWhere true e o n → (m : ℕ) → (Within e o n m → m < 2 ^ n) × (m < 2 ^ n → Within e o n m)
unfolding number value
plain Little Msb0 n h m = (λ w. w, λ w. w)
plain Little Lsb0 n h m = (λ w. w, λ w. w)
plain Big Msb0 n h m = (λ w. w, λ w. w)
plain Big Lsb0 n h m = ⊎_elim (λ l. plain_short n m l) (λ d. plain_whole n m d) h

-- ---- the law
pub range_of : (b : Bool) (e : Endian) (o : Order) (n : ℕ) → IsEvenWhere b e o n → (s : List Bool) → length s ≡ n → InRange b e o n (with_sign b n (number e o s))
unfolding number value
range_of false e o n h s l = (number e o s, refl, rw l at (within e o s))
range_of true e o zero h s l =
    let w : Within e o zero (number e o s) = rw l at (within e o s) in
    let z : number e o s ≡ 0 = omega (arith, (plain e o zero h (number e o s)).0 w) in
    ap pos z
range_of true e o (suc n) h s l =
    let w : Within e o (suc n) (number e o s) = rw l at (within e o s) in
    let below : number e o s < 2 ^ n * 2 = rw (pow-suc 2 n) at ((plain e o (suc n) h (number e o s)).0 w) in
    rw (with_sign-signed n (number e o s)) (signed_range (2 ^ n) (number e o s) below)

listed_for : (b : Bool) (e : Endian) (o : Order) (n : ℕ) → IsEvenWhere b e o n → (v : ℤ) → InRange b e o n v → (s : List Bool) × (length s ≡ n) × (with_sign b n (number e o s) ≡ v)
unfolding number value
listed_for false e o n h v r =
    let q = listed e o n r.0 r.2 in
    (q.0, q.1, ap pos q.2 ∙ sym r.1)
listed_for true e o zero h v r =
    let q = listed e o zero 0 ((plain e o zero h 0).1 (omega arith)) in
    (q.0, q.1, ap pos q.2 ∙ sym r)
listed_for true e o (suc n) h v r =
    let m = signed_onto (2 ^ n) v r.0 r.1 in
    let below : m.0 < 2 ^ suc n = rw (pow-suc 2 n) m.1 in
    let q = listed e o (suc n) m.0 ((plain e o (suc n) h m.0).1 below) in
    (q.0, q.1, ap (with_sign true (suc n)) q.2 ∙ with_sign-signed n m.0 ∙ m.2)

with_sign-inj : (b : Bool) (e : Endian) (o : Order) (n : ℕ) → IsEvenWhere b e o n → (x y : ℕ) → Within e o n x → Within e o n y → with_sign b n x ≡ with_sign b n y → x ≡ y
unfolding number value
with_sign-inj false e o n h x y wx wy q = omega (arith, ints)
with_sign-inj true e o zero h x y wx wy q = omega (arith, ints)
with_sign-inj true e o (suc n) h x y wx wy q =
    signed-inj (2 ^ n) x y
    (rw (pow-suc 2 n) at ((plain e o (suc n) h x).0 wx))
    (rw (pow-suc 2 n) at ((plain e o (suc n) h y).0 wy))
    (sym (with_sign-signed n x) ∙ q ∙ with_sign-signed n y)

pub field_law : FieldLaw
unfolding number value
field_law t l ok v =
    let b : Bool = t.signed in
    let n : ℕ = width t l in (
      (
        λ f.
            let r = range_of b l.endian l.order n ok.even f.0 f.1.wide in
            subst (InRange b l.endian l.order n) (ap (λ m. with_sign b m (number l.endian l.order f.0)) (sym f.1.wide) ∙ f.1.worth) r,
        λ r.
            let q = listed_for b l.endian l.order n ok.even v r in
            (q.0, record { wide = q.1; worth = ap (λ m. with_sign b m (number l.endian l.order q.0)) q.1 ∙ q.2 }),
      ),
      λ r s f g.
          number-inj l.endian l.order r s (f.wide ∙ sym g.wide)
          (with_sign-inj b l.endian l.order n ok.even (number l.endian l.order r) (number l.endian l.order s)
          (rw (f.wide) at (within l.endian l.order r))
          (rw (g.wide) at (within l.endian l.order s))
          (ap (λ m. with_sign b m (number l.endian l.order r)) (sym f.wide) ∙ f.worth ∙ sym g.worth ∙ ap (λ m. with_sign b m (number l.endian l.order s)) g.wide)),
    )
