-- A list's number without a sign: lists of one width with one number are one list, and each number within the width's range has a list.
use Rattle.std.proofs.Common.{◌≤◌, ℕ, zero, suc, ◌+◌, ◌*◌, ◌-◌, ◌/◌, ◌%◌, ◌^◌, ◌<◌, ◌≡◌, Bool, List, [], ◌∷◌, ◌++◌, length, take, drop, refl, ap, ap₂, sym, ◌∙◌, arith, length-append, take-append-drop, length-drop, length-take-le, mod-lt, div-add-mod', mod-eq_of_lt, div-lt_iff_lt-mul, ⊎_elim, append-nil}
use Rattle.std.proofs.lemmas.Nat.{pow-add, same_from_place, mul-add-lt}
use Rattle.std.proofs.lemmas.List.{length-map}
use native.Mathlib.Nat.{one-le-pow, pow-succ', pow-le-pow_right}
use Rattle.std.proofs.lemmas.Bool.{cases_lt}
use Rattle.deku_bits.specs.declared.ctx.Order.{Order}
use Rattle.deku_bits.specs.declared.ctx.Order.TheVariants.{Msb0, Lsb0}
use Rattle.deku_num.specs.declared.ctx.Endian.{Endian}
use Rattle.deku_num.specs.declared.ctx.Endian.TheVariants.{Little, Big}
use Rattle.deku_bits.specs.Bits.{chunks, bits_of, group_number}
use Rattle.deku_bits.specs.Bits.{groups}
use Rattle.deku_num.specs.NumberLaws.{Within}
use Rattle.deku_num.specs.Numbers.{number}
use Rattle.deku_bits.proofs.Binary.{bin-lt, bin-append, group_number-lt, group_number-inj, group_of, length-group_of, group_number-group_of, length-bits_of, bin-bits_of}
use Rattle.deku_bits.proofs.Groups.{chunks-full, chunks-short, by_eights, by_groups, groups-more, groups_short, length-chunks}

-- ---- a group in front, and a short group alone
-- how often the number of a group of eight counts in big, in front of n bits
abbrev pub weight : Order → ℕ → ℕ
weight Msb0 n = 2 ^ n
weight Lsb0 n = 256 ^ groups n

pub little-full : (o : Order) (g t : List Bool) → length g ≡ 8 → number Little o (g ++ t) ≡ group_number o g + 256 * number Little o t
unfolding number
little-full o g t l = rw (chunks-full g t l) refl

pub big-full : (o : Order) (g t : List Bool) → length g ≡ 8 → number Big o (g ++ t) ≡ group_number o g * weight o (length t) + number Big o t
unfolding number
big-full Msb0 g t l = bin-append g t
big-full Lsb0 g t l = rw (chunks-full g t l, length-map (chunks t) (group_number Lsb0), length-chunks t) refl

pub number_short : (e : Endian) (o : Order) (s : List Bool) → 0 < length s → length s < 8 → number e o s ≡ group_number o s
unfolding number
number_short Little o s p l = rw (chunks-short s p l) (omega arith)
number_short Big Msb0 s p l = refl
number_short Big Lsb0 s p l = rw (chunks-short s p l) (omega arith)

-- one group alone, a whole one too
pub number_one : (e : Endian) (o : Order) (g : List Bool) → 0 < length g → length g ≤ 8 → number e o g ≡ group_number o g
unfolding number
number_one e o g p l = ⊎_elim
    (λ (k : length g < 8). number_short e o g p k)
    (λ (k : 8 ≤ length g). ap (number e o) (sym (append-nil g)) ∙ whole_groups e o (omega arith))
    (cases_lt (length g) 8)
  where
    whole_groups : (e : Endian) (o : Order) → length g ≡ 8 → number e o (g ++ []) ≡ group_number o g
    whole_groups Little o h = little-full o g [] h ∙ omega arith
    whole_groups Big Msb0 h = big-full Msb0 g [] h ∙ omega arith
    whole_groups Big Lsb0 h = big-full Lsb0 g [] h ∙ omega arith

-- ---- what a list's number is below
pub group_below : (o : Order) (g : List Bool) → length g < 9 → group_number o g < 256
unfolding number
group_below o g l = omega (arith, group_number-lt o g, pow-le-pow_right {n = 2} (omega arith) {i = length g} {j = 8} (omega arith))

weight-more : (o : Order) (n : ℕ) → weight o (8 + n) ≡ 256 * weight o n
unfolding number
weight-more Msb0 n = pow-add 2 8 n
weight-more Lsb0 n = ap (λ k. 256 ^ k) (groups-more n) ∙ pow-succ' 256 (groups n)

pub big_below : (o : Order) (s : List Bool) → number Big o s < weight o (length s)
unfolding number
big_below Msb0 s = bin-lt s
big_below Lsb0 s = by_groups (λ s. number Big Lsb0 s < weight Lsb0 (length s)) (omega arith)
    (λ s p l. rw (number_short Big Lsb0 s p l, groups_short (length s) p l) (group_below Lsb0 s (omega arith)))
    (λ g t l h. rw (big-full Lsb0 g t l, length-append g t, l, weight-more Lsb0 (length t))
    (let r : group_number Lsb0 g * weight Lsb0 (length t) + number Big Lsb0 t < weight Lsb0 (length t) * 256 =
    mul-add-lt _ _ _ _ (group_below Lsb0 g (omega arith)) h in
    omega arith))
    s

pub little_below : (o : Order) (s : List Bool) → number Little o s < 2 ^ length s
unfolding number
little_below o s = by_groups (λ s. number Little o s < 2 ^ length s) (omega arith)
    (λ s p l. rw (number_short Little o s p l) (group_number-lt o s))
    (λ g t l h. rw (little-full o g t l, length-append g t, l, pow-add 2 8 (length t))
    (omega (arith, group_below o g (omega arith))))
    s

-- ---- one list at most
nil : (t : List Bool) → 0 ≡ length t → [] ≡ t
unfolding number
nil [] l = refl
nil (b ∷ t) l = absurd (omega arith)

inj-full : (e : Endian) (o : Order) (g t h u : List Bool) → length g ≡ 8 → length h ≡ 8 → length t ≡ length u → number e o (g ++ t) ≡ number e o (h ++ u) → (g ≡ h) × (number e o t ≡ number e o u)
unfolding number
inj-full Little o g t h u lg lh lt q =
    let r : group_number o g + 256 * number Little o t ≡ group_number o h + 256 * number Little o u =
    sym (little-full o g t lg) ∙ q ∙ little-full o h u lh in
    let bg : group_number o g < 256 = group_below o g (omega arith) in
    let bh : group_number o h < 256 = group_below o h (omega arith) in
    (group_number-inj o g h (lg ∙ sym lh) (omega arith), omega arith)
inj-full Big o g t h u lg lh lt q =
    let r : group_number o g * weight o (length t) + number Big o t ≡ group_number o h * weight o (length t) + number Big o u =
    sym (big-full o g t lg) ∙ q ∙ big-full o h u lh ∙ ap (λ n. group_number o h * weight o n + number Big o u) (sym lt) in
    let p = same_from_place (group_number o g) (number Big o t) (group_number o h) (number Big o u) (weight o (length t))
    (big_below o t) (rw lt (big_below o u)) r in
    (group_number-inj o g h (lg ∙ sym lh) p.0, p.1)

pub number-inj : (e : Endian) (o : Order) (s t : List Bool) → length s ≡ length t → number e o s ≡ number e o t → s ≡ t
unfolding number
number-inj e o s = by_groups (λ s. (t : List Bool) → length s ≡ length t → number e o s ≡ number e o t → s ≡ t)
    (λ t l q. nil t l)
    (λ s p l t m q. group_number-inj o s t m
    (sym (number_short e o s p l) ∙ q ∙ number_short e o t (omega arith) (omega arith)))
    (λ g t l ih u m q.
    let m' : 8 + length t ≡ length u = omega (arith, length-append g t) in
    let lh : length (take 8 u) ≡ 8 = length-take-le 8 u (omega arith) in
    let lt : length t ≡ length (drop 8 u) = omega (arith, length-drop 8 u) in
    let p = inj-full e o g t (take 8 u) (drop 8 u) l lh lt (q ∙ ap (number e o) (sym (take-append-drop 8 u))) in
    ap₂ (λ x y. x ++ y) p.0 (ih (drop 8 u) lt p.1) ∙ take-append-drop 8 u)
    s

-- ---- a list's number is within its width's range
low-more : (n : ℕ) → 0 < n → 8 + n - 8 * (groups (8 + n) - 1) ≡ n - 8 * (groups n - 1)
unfolding number
low-more n p = omega arith

weight-mod : (n x y : ℕ) → 0 < n → (x * 256 ^ groups n + y) % 256 ≡ y % 256
unfolding number
weight-mod n x y p =
    let k : ℕ = groups n - 1 in
    let h : groups n ≡ suc k = omega arith in
    rw (h, pow-succ' 256 k) (omega arith)

low_below : (g t : List Bool) → length g ≡ 8 → (n : ℕ) → length t ≡ n → number Big Lsb0 t % 256 < 2 ^ (n - 8 * (groups n - 1)) → number Big Lsb0 (g ++ t) % 256 < 2 ^ (8 + n - 8 * (groups (8 + n) - 1))
unfolding number
low_below g t l zero lt h = omega (arith, mod-lt (number Big Lsb0 (g ++ t)) {m = 256} (omega arith))
low_below g t l (suc n) lt h =
    rw (low-more (suc n) (omega arith), big-full Lsb0 g t l, lt, weight-mod (suc n) (group_number Lsb0 g) (number Big Lsb0 t) (omega arith)) h

pub within : (e : Endian) (o : Order) (s : List Bool) → Within e o (length s) (number e o s)
unfolding number
within Little Msb0 s = little_below Msb0 s
within Little Lsb0 s = little_below Lsb0 s
within Big Msb0 s = bin-lt s
within Big Lsb0 s = (
  big_below Lsb0 s,
  by_groups (λ s. number Big Lsb0 s % 256 < 2 ^ (length s - 8 * (groups (length s) - 1)))
      (omega arith)
      (λ s p l. rw (number_short Big Lsb0 s p l, groups_short (length s) p l)
      (let b : group_number Lsb0 s < 256 = group_below Lsb0 s (omega arith) in
      let e : length s - 8 * (1 - 1) ≡ length s = omega arith in
      rw (mod-eq_of_lt b, e) (group_number-lt Lsb0 s)))
      (λ g t l h. rw (length-append g t, l) (low_below g t l (length t) refl h))
      s,
)

-- ---- each number within the range has a list
abbrev pub Listed : Endian → Order → ℕ → ℕ → Type 0
Listed e o n m = (s : List Bool) × (length s ≡ n) × (number e o s ≡ m)

listed_short : (e : Endian) (o : Order) (n m : ℕ) → 0 < n → n < 8 → m < 2 ^ n → Listed e o n m
unfolding number
listed_short e o n m p l h =
    let w : length (group_of o n m) ≡ n = length-group_of o n m in
    (group_of o n m, w, number_short e o (group_of o n m) (omega arith) (omega arith) ∙ group_number-group_of o n m h)

listed_little : (o : Order) (n m : ℕ) → m < 2 ^ n → Listed Little o n m
unfolding number
listed_little o n = by_eights (λ n. (m : ℕ) → m < 2 ^ n → Listed Little o n m)
    (λ m h. ([], refl, omega arith))
    (λ n p l m h. listed_short Little o n m p l h)
    (λ n ih m h.
    let below : m / 256 < 2 ^ n = omega (arith, pow-add 2 8 n) in
    let r = ih (m / 256) below in
    let w : length (group_of o 8 (m % 256)) ≡ 8 = length-group_of o 8 (m % 256) in (
      group_of o 8 (m % 256) ++ r.0,
      length-append (group_of o 8 (m % 256)) r.0 ∙ ap₂ (λ x y. x + y) w r.1,
      rw (little-full o (group_of o 8 (m % 256)) r.0 w, group_number-group_of o 8 (m % 256) (omega arith), r.2) (omega arith),
    ))
    n

within-part : (n m : ℕ) → Within Big Lsb0 (8 + n) m → Within Big Lsb0 n (m % 256 ^ groups n)
unfolding number
within-part zero m h = (omega arith, omega arith)
within-part (suc n) m h =
    let W : ℕ = 256 ^ groups (suc n) in
    let same : m % W % 256 ≡ m % 256 =
    sym (weight-mod (suc n) (m / W) (m % W) (omega arith)) ∙ ap (λ x. x % 256) (div-add-mod' m W) in (
      mod-lt m (one-le-pow (groups (suc n)) 256 (omega arith)),
      rw (same, ← low-more (suc n) (omega arith)) h.1,
    )

pub short_range : (n m : ℕ) → 0 < n → n < 8 → Within Big Lsb0 n m → m < 2 ^ n
unfolding number
short_range n m p l h =
    let g : groups n ≡ 1 = groups_short n p l in
    let e : n - 8 * (1 - 1) ≡ n = omega arith in
    let b : m < 256 = rw g at h.0 in
    rw (g, e, mod-eq_of_lt b) at h.1

listed_big : (n m : ℕ) → Within Big Lsb0 n m → Listed Big Lsb0 n m
unfolding number
listed_big n = by_eights (λ n. (m : ℕ) → Within Big Lsb0 n m → Listed Big Lsb0 n m)
    (λ m h. ([], refl, omega arith))
    (λ n p l m h. listed_short Big Lsb0 n m p l (short_range n m p l h))
    (λ n ih m h.
    let W : ℕ = 256 ^ groups n in
    let first : m / W < 2 ^ 8 = (div-lt_iff_lt-mul {k = W} {x = m} {y = 256} (one-le-pow (groups n) 256 (omega arith))).1 (rw (← weight-more Lsb0 n) h.0) in
    let r = ih (m % W) (within-part n m h) in
    let w : length (group_of Lsb0 8 (m / W)) ≡ 8 = length-group_of Lsb0 8 (m / W) in (
      group_of Lsb0 8 (m / W) ++ r.0,
      length-append (group_of Lsb0 8 (m / W)) r.0 ∙ ap₂ (λ x y. x + y) w r.1,
      rw (big-full Lsb0 (group_of Lsb0 8 (m / W)) r.0 w, group_number-group_of Lsb0 8 (m / W) first, r.2, r.1) (div-add-mod' m W),
    ))
    n

pub listed : (e : Endian) (o : Order) (n m : ℕ) → Within e o n m → Listed e o n m
unfolding number
listed Little Msb0 n m h = listed_little Msb0 n m h
listed Little Lsb0 n m h = listed_little Lsb0 n m h
listed Big Msb0 n m h = (bits_of n m, length-bits_of n m, bin-bits_of n m ∙ mod-eq_of_lt h)
listed Big Lsb0 n m h = listed_big n m h
