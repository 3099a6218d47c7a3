-- Each bit of a field is at its place in the number.
use Rattle.std.proofs.Common.{ℕ, suc, ◌+◌, ◌*◌, ◌-◌, ◌/◌, ◌%◌, ◌^◌, ◌<◌, ◌≤◌, ◌≡◌, Bool, true, false, cond, List, [], ◌∷◌, ◌++◌, reverse, length, take, drop, refl, ap, ap₂, sym, ◌∙◌, ⊎_elim, arith, append_assoc, length-append, take-append-drop, length-take-le}
use Rattle.std.proofs.lemmas.Nat.{pow-add, div-mul-add, shr-shr, field_of}
use Rattle.std.proofs.lemmas.List.{length-reverse, reverse-append}
use Rattle.std.proofs.lemmas.Bool.{cases_lt}
use native.Mathlib.Nat.{pow-succ', add-mul-mod_self_left}
use Rattle.deku_bits.specs.declared.ctx.Order.{Order}
use Rattle.deku_bits.specs.declared.ctx.Order.TheVariants.{Msb0, Lsb0}
use Rattle.deku_num.specs.declared.ctx.Endian.{Endian}
use Rattle.deku_num.specs.declared.ctx.Endian.TheVariants.{Little, Big}
use Rattle.deku_bits.specs.Bits.{bin, group_number}
use Rattle.deku_bits.specs.Bits.{groups}
use Rattle.deku_num.specs.NumberLaws.{place, BitLaw}
use Rattle.deku_num.specs.Numbers.{number}
use Rattle.deku_bits.proofs.Binary.{bin-lt, bin-append}
use Rattle.deku_bits.proofs.Groups.{by_groups}
use Rattle.deku_num.proofs.Chunked.{little-full, big-full, number_one, big_below, group_below}
use Rattle.deku_num.proofs.Values.{eights}

bit : Bool → ℕ
unfolding number
bit b = cond b 1 0

bit_low : (b : Bool) → cond b 1 0 < 2
unfolding number
bit_low true = omega arith
bit_low false = omega arith

-- ---- in a binary number
bin_bit : (x y : List Bool) (b : Bool) → bin (x ++ b ∷ y) ≡ (bin x * 2 + cond b 1 0) * 2 ^ length y + bin y
unfolding number
bin_bit x y b = bin-append x (b ∷ y) ∙ rw (pow-succ' 2 (length y)) (omega arith)

bin_get : (x y : List Bool) (b : Bool) → bin (x ++ b ∷ y) / 2 ^ length y % 2 ≡ cond b 1 0
unfolding number
bin_get x y b =
    let l : cond b 1 0 < 2 = bit_low b in
    rw (bin_bit x y b, div-mul-add (bin x * 2 + cond b 1 0) (2 ^ length y) (bin y) (bin-lt y)) (omega arith)

-- ---- in a group
abbrev group_place : Order → ℕ → ℕ → ℕ
group_place Msb0 n i = n - 1 - i
group_place Lsb0 n i = i

turned : (p q : List Bool) (b : Bool) → reverse (p ++ b ∷ q) ≡ reverse q ++ b ∷ reverse p
unfolding number
turned p q b = reverse-append p (b ∷ q) ∙ ap (λ x. x ++ reverse p) (reverse-append (b ∷ []) q) ∙ append_assoc (reverse q) (b ∷ []) (reverse p)

group_set : (o : Order) (p q : List Bool) → group_number o (p ++ true ∷ q) ≡ group_number o (p ++ false ∷ q) + 2 ^ group_place o (length p + suc (length q)) (length p)
unfolding number
group_set Msb0 p q =
    let e : length p + suc (length q) - 1 - length p ≡ length q = omega arith in
    rw (e, bin_bit p q true, bin_bit p q false) (omega arith)
group_set Lsb0 p q =
    rw (turned p q true, turned p q false, bin_bit (reverse q) (reverse p) true, bin_bit (reverse q) (reverse p) false, length-reverse p) (omega arith)

group_get : (o : Order) (p q : List Bool) (b : Bool) → group_number o (p ++ b ∷ q) / 2 ^ group_place o (length p + suc (length q)) (length p) % 2 ≡ cond b 1 0
unfolding number
group_get Msb0 p q b =
    let e : length p + suc (length q) - 1 - length p ≡ length q = omega arith in
    rw e (bin_get p q b)
group_get Lsb0 p q b = rw (turned p q b, ← length-reverse p) (bin_get (reverse q) (reverse p) b)

-- what is above does not show below
low_get : (a u j k : ℕ) → j < k → (a + u * 2 ^ k) / 2 ^ j % 2 ≡ a / 2 ^ j % 2
unfolding number
low_get a u j k h =
    let m : ℕ = k - (1 + j) in
    let e : k ≡ (1 + j) + m = omega arith in
    let same : a + u * 2 ^ k ≡ a + 2 ^ (1 + j) * (2 ^ m * u) =
    ap (λ x. a + u * 2 ^ x) e ∙ ap (λ x. a + u * x) (pow-add 2 (1 + j) m) ∙ omega arith in
    sym (field_of (a + u * 2 ^ k) 1 j)
    ∙ ap (λ x. x / 2 ^ j) (ap (λ x. x % 2 ^ (1 + j)) same ∙ add-mul-mod_self_left a (2 ^ (1 + j)) (2 ^ m * u))
    ∙ field_of a 1 j

-- ---- in a field
abbrev Bit : Endian → Order → List Bool → List Bool → Type 0
Bit e o p q =
    (number e o (p ++ true ∷ q) ≡ number e o (p ++ false ∷ q) + 2 ^ place e o (length p + suc (length q)) (length p))
    × ((b : Bool) → number e o (p ++ b ∷ q) / 2 ^ place e o (length p + suc (length q)) (length p) % 2 ≡ cond b 1 0)

-- the first group, with bits after it
record Split (p q : List Bool) : Type 0 where
  first : List Bool
  behind : List Bool
  is : q ≡ first ++ behind
  eight : length p + suc (length first) ≡ 8

split : (p q : List Bool) → length p < 8 → 8 < length p + suc (length q) → Split p q
unfolding number
split p q l k = record {
  first = take (7 - length p) q;
  behind = drop (7 - length p) q;
  is = sym (take-append-drop (7 - length p) q);
  eight = omega (arith, length-take-le (7 - length p) q (omega arith));
}

-- one group alone
alone : (e : Endian) (o : Order) (p q : List Bool) → length p + suc (length q) ≤ 8 → place e o (length p + suc (length q)) (length p) ≡ group_place o (length p + suc (length q)) (length p) → Bit e o p q
unfolding number
alone e o p q l h =
    let one : (b : Bool) → number e o (p ++ b ∷ q) ≡ group_number o (p ++ b ∷ q) =
    λ b. number_one e o (p ++ b ∷ q) (omega (arith, length-append p (b ∷ q))) (omega (arith, length-append p (b ∷ q))) in
    rw h (
      one true ∙ group_set o p q ∙ ap (λ x. x + 2 ^ group_place o (length p + suc (length q)) (length p)) (sym (one false)),
      λ b. ap (λ x. x / 2 ^ group_place o (length p + suc (length q)) (length p) % 2) (one b) ∙ group_get o p q b,
    )

-- the place in the first group of more, and in a group further on
little_place_first : (o : Order) (n i : ℕ) → i < 8 → 8 ≤ n → place Little o n i ≡ group_place o 8 i
unfolding number
little_place_first Msb0 n i h k = omega arith
little_place_first Lsb0 n i h k = refl

little_place_alone : (o : Order) (n i : ℕ) → i < n → n ≤ 8 → place Little o n i ≡ group_place o n i
unfolding number
little_place_alone Msb0 n i h k = omega arith
little_place_alone Lsb0 n i h k = refl

little_place_more : (o : Order) (n i : ℕ) → place Little o (8 + n) (8 + i) ≡ 8 + place Little o n i
unfolding number
little_place_more Msb0 n i = omega arith
little_place_more Lsb0 n i = refl

little_first : (o : Order) (p q : List Bool) → length p < 8 → 8 < length p + suc (length q) → Bit Little o p q
unfolding number
little_first o p q l k =
    let s = split p q l k in
    let U : ℕ = number Little o s.behind in
    let j : ℕ = group_place o 8 (length p) in
    let here : place Little o (length p + suc (length q)) (length p) ≡ j = little_place_first o (length p + suc (length q)) (length p) l (omega arith) in
    let g : (b : Bool) → List Bool = λ b. p ++ b ∷ s.first in
    let lg : (b : Bool) → length (g b) ≡ 8 = λ b. length-append p (b ∷ s.first) ∙ s.eight in
    let is : (b : Bool) → number Little o (p ++ b ∷ q) ≡ group_number o (g b) + U * 2 ^ 8 = λ b.
    ap (λ x. number Little o (p ++ b ∷ x)) s.is ∙ ap (number Little o) (sym (append_assoc p (b ∷ s.first) s.behind))
    ∙ little-full o (g b) s.behind (lg b) ∙ omega arith in
    let set : group_number o (g true) ≡ group_number o (g false) + 2 ^ j =
    group_set o p s.first ∙ ap (λ n. group_number o (g false) + 2 ^ group_place o n (length p)) s.eight in
    let get : (b : Bool) → group_number o (g b) / 2 ^ j % 2 ≡ cond b 1 0 = λ b.
    ap (λ n. group_number o (g b) / 2 ^ group_place o n (length p) % 2) (sym s.eight) ∙ group_get o p s.first b in
    rw here (
      omega (arith, is true, is false, set),
      λ b. ap (λ x. x / 2 ^ j % 2) (is b) ∙ low_get (group_number o (g b)) U j 8 (small o (length p) l) ∙ get b,
    )
  where
    small : (o : Order) (i : ℕ) → i < 8 → group_place o 8 i < 8
    small Msb0 i h = omega arith
    small Lsb0 i h = h

little_more : (o : Order) (h p q : List Bool) → length h ≡ 8 → Bit Little o p q → Bit Little o (h ++ p) q
unfolding number
little_more o h p q l r =
    let n : ℕ = length p + suc (length q) in
    let j : ℕ = place Little o n (length p) in
    let lp : length (h ++ p) ≡ 8 + length p = omega (arith, length-append h p) in
    let ln : length (h ++ p) + suc (length q) ≡ 8 + n = omega arith in
    let here : place Little o (length (h ++ p) + suc (length q)) (length (h ++ p)) ≡ 8 + j =
    ap₂ (place Little o) ln lp ∙ little_place_more o n (length p) in
    let is : (b : Bool) → number Little o ((h ++ p) ++ b ∷ q) ≡ group_number o h + 256 * number Little o (p ++ b ∷ q) = λ b.
    ap (number Little o) (append_assoc h p (b ∷ q)) ∙ little-full o h (p ++ b ∷ q) l in
    let small : group_number o h < 256 = group_below o h (omega arith) in
    rw (here) (
      is true ∙ rw (r.0, pow-add 2 8 j, is false) (omega arith),
      λ b. ap (λ x. x / 2 ^ (8 + j) % 2) (is b)
          ∙ ap (λ x. x % 2) (sym (shr-shr (group_number o h + 256 * number Little o (p ++ b ∷ q)) 8 j) ∙ ap (λ x. x / 2 ^ j) (top (group_number o h) (number Little o (p ++ b ∷ q)) small))
          ∙ r.1 b,
    )
  where
    top : (g u : ℕ) → g < 256 → (g + 256 * u) / 2 ^ 8 ≡ u
    top g u s = omega arith

little_bit : (o : Order) (p q : List Bool) → Bit Little o p q
unfolding number
little_bit o p q = by_groups (λ p. Bit Little o p q) (base [] (omega arith)) (λ s k l. base s l) (λ h p l r. little_more o h p q l r) p
  where
    base : (p : List Bool) → length p < 8 → Bit Little o p q
    base p l = ⊎_elim (λ (k : 8 < length p + suc (length q)). little_first o p q l k)
        (λ (k : length p + suc (length q) ≤ 8). alone Little o p q k (little_place_alone o (length p + suc (length q)) (length p) (omega arith) k))
        (cases_lt 8 (length p + suc (length q)))

big_msb : (p q : List Bool) → Bit Big Msb0 p q
unfolding number
big_msb p q = (group_set Msb0 p q, group_get Msb0 p q)

big_first : (p q : List Bool) → length p < 8 → 8 < length p + suc (length q) → Bit Big Lsb0 p q
unfolding number
big_first p q l k =
    let s = split p q l k in
    let U : ℕ = number Big Lsb0 s.behind in
    let i : ℕ = length p in
    let m : ℕ = groups (length s.behind) in
    let W : ℕ = 2 ^ (8 * m) in
    let lq : length q ≡ length s.first + length s.behind = ap length s.is ∙ length-append s.first s.behind in
    let se : i + suc (length s.first) ≡ 8 = s.eight in
    let here : place Big Lsb0 (i + suc (length q)) i ≡ 8 * m + i = first_place i (length q) (length s.first) (length s.behind) l lq se in
    let g : (b : Bool) → List Bool = λ b. p ++ b ∷ s.first in
    let lg : (b : Bool) → length (g b) ≡ 8 = λ b. length-append p (b ∷ s.first) ∙ s.eight in
    let small : U < W = rw (eights m) (big_below Lsb0 s.behind) in
    let is : (b : Bool) → number Big Lsb0 (p ++ b ∷ q) ≡ group_number Lsb0 (g b) * W + U = λ b.
    ap (λ x. number Big Lsb0 (p ++ b ∷ x)) s.is ∙ ap (number Big Lsb0) (sym (append_assoc p (b ∷ s.first) s.behind))
    ∙ big-full Lsb0 (g b) s.behind (lg b) ∙ ap (λ w. group_number Lsb0 (g b) * w + U) (sym (eights m)) in
    let set : group_number Lsb0 (g true) ≡ group_number Lsb0 (g false) + 2 ^ i = group_set Lsb0 p s.first in
    rw here (
      is true ∙ rw (set, pow-add 2 (8 * m) i, is false) (omega arith),
      λ b. ap (λ x. x / 2 ^ (8 * m + i) % 2) (is b)
          ∙ ap (λ x. x % 2) (sym (shr-shr (group_number Lsb0 (g b) * W + U) (8 * m) i) ∙ ap (λ x. x / 2 ^ i) (div-mul-add (group_number Lsb0 (g b)) W U small))
          ∙ group_get Lsb0 p s.first b,
    )
  where
    first_place : (i n a b : ℕ) → i < 8 → n ≡ a + b → i + suc a ≡ 8 → place Big Lsb0 (i + suc n) i ≡ 8 * groups b + i
    first_place i n a b l e h = omega arith

big_more : (h p q : List Bool) → length h ≡ 8 → Bit Big Lsb0 p q → Bit Big Lsb0 (h ++ p) q
unfolding number
big_more h p q l r =
    let n : ℕ = length p + suc (length q) in
    let j : ℕ = place Big Lsb0 n (length p) in
    let k : ℕ = groups n in
    let lp : length (h ++ p) ≡ 8 + length p = omega (arith, length-append h p) in
    let ln : length (h ++ p) + suc (length q) ≡ 8 + n = omega arith in
    let here : place Big Lsb0 (length (h ++ p) + suc (length q)) (length (h ++ p)) ≡ j = ap₂ (place Big Lsb0) ln lp ∙ same n (length p) in
    let is : (b : Bool) → number Big Lsb0 ((h ++ p) ++ b ∷ q) ≡ number Big Lsb0 (p ++ b ∷ q) + group_number Lsb0 h * 2 ^ (8 * k) = λ b.
    ap (number Big Lsb0) (append_assoc h p (b ∷ q)) ∙ big-full Lsb0 h (p ++ b ∷ q) l
    ∙ ap (λ x. group_number Lsb0 h * x + number Big Lsb0 (p ++ b ∷ q)) (ap (λ x. 256 ^ groups x) (length-append p (b ∷ q)) ∙ sym (eights k)) ∙ omega arith in
    rw (here) (
      is true ∙ rw (r.0, is false) (omega arith),
      λ b. ap (λ x. x / 2 ^ j % 2) (is b) ∙ low_get (number Big Lsb0 (p ++ b ∷ q)) (group_number Lsb0 h) j (8 * k) (low n (length p) (omega arith)) ∙ r.1 b,
    )
  where
    same : (n i : ℕ) → place Big Lsb0 (8 + n) (8 + i) ≡ place Big Lsb0 n i
    same n i = omega arith

    low : (n i : ℕ) → i < n → place Big Lsb0 n i < 8 * groups n
    low n i h = omega arith

big_lsb : (p q : List Bool) → Bit Big Lsb0 p q
unfolding number
big_lsb p q = by_groups (λ p. Bit Big Lsb0 p q) (base [] (omega arith)) (λ s k l. base s l) (λ h p l r. big_more h p q l r) p
  where
    alone_place : (n i : ℕ) → i < n → n ≤ 8 → place Big Lsb0 n i ≡ i
    alone_place n i h k = omega arith

    base : (p : List Bool) → length p < 8 → Bit Big Lsb0 p q
    base p l = ⊎_elim (λ (k : 8 < length p + suc (length q)). big_first p q l k)
        (λ (k : length p + suc (length q) ≤ 8). alone Big Lsb0 p q k (alone_place (length p + suc (length q)) (length p) (omega arith) k))
        (cases_lt 8 (length p + suc (length q)))

pub bit_law : BitLaw
unfolding number
bit_law Little o p q = little_bit o p q
bit_law Big Msb0 p q = big_msb p q
bit_law Big Lsb0 p q = big_lsb p q
