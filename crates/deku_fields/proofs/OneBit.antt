-- One bit of a number, and of a value in two's complement.
use Rattle.std.proofs.Common.{ℕ, zero, suc, ◌+◌, ◌*◌, ◌-◌, ◌/◌, ◌%◌, ◌^◌, ◌<◌, ◌≤◌, ◌≡◌, Bool, true, false, cond, leb, List, ◌∷◌, ◌++◌, length, take, drop, get_or, ℤ, pos, ◌-ℤ◌, refl, ap, sym, ◌∙◌, subst, ⊎_elim, arith, length-drop, length-take-le, take-append-drop, drop-cons, mod-eq_of_lt}
use Rattle.std.proofs.lemmas.Int.{ints}
use Rattle.std.proofs.lemmas.Nat.{pow-add, field_of}
use native.Mathlib.Nat.{add-mul-mod_self_left}
use Rattle.deku_bits.specs.declared.ctx.Order.{Order}
use Rattle.deku_bits.specs.declared.ctx.Order.TheVariants.{Msb0, Lsb0}
use Rattle.deku_bits.specs.Pieces.{Piece}
use Rattle.deku_num.specs.declared.ctx.Endian.{Endian}
use Rattle.deku_num.specs.declared.ctx.Endian.TheVariants.{Little, Big}
use Rattle.deku_num.specs.declared.ctx.Layout.{Layout}
use Rattle.deku_num.specs.declared.kind.NumberType.{NumberType}
use Rattle.deku_num.specs.Numbers.{number, value, with_sign, IsEvenWhere}
use Rattle.deku_num.specs.NumberLaws.{place, residue}
use Rattle.deku_num.proofs.Places.{bit_law}
use Rattle.deku_num.proofs.Listing.{residue_law}
use Rattle.deku_fields.specs.declared.list.Item.{Item}
use Rattle.deku_fields.specs.Items.{number_type, field_width, IsAllowedField, IsPieceOf}
use Rattle.deku_fields.specs.ListCalls.{integer_of}
use Rattle.deku_fields.specs.Places.{bit_of}
use Rattle.deku_fields.proofs.WritingLists.{integer_is}

-- ---- of a number
-- a number shows bit i of its list at its place
pub number_bit : (e : Endian) (o : Order) (s : List Bool) (i : ℕ) → i < length s → number e o s / 2 ^ place e o (length s) i % 2 ≡ cond (get_or s i false) 1 0
number_bit e o s i h =
    let b : Bool = get_or s i false in
    let p : List Bool = take i s in
    let q : List Bool = drop (suc i) s in
    let is : s ≡ p ++ b ∷ q = sym (take-append-drop i s) ∙ ap (λ x. p ++ x) (drop-cons s i false h) in
    let front : length p ≡ i = length-take-le i s (omega arith) in
    let whole : length p + suc (length q) ≡ length s = omega (arith, front, length-drop (suc i) s) in
    ap (λ x. number e o x / 2 ^ place e o (length s) i % 2) is
    ∙ ap (λ n. number e o (p ++ b ∷ q) / 2 ^ place e o n i % 2) (sym whole)
    ∙ ap (λ j. number e o (p ++ b ∷ q) / 2 ^ place e o (length p + suc (length q)) j % 2) (sym front)
    ∙ (bit_law e o p q).1 b

-- ---- of a value in two's complement
low : (m b : ℕ) → m % 2 ^ suc b / 2 ^ b ≡ m / 2 ^ b % 2
low m b = let e : suc b ≡ 1 + b = omega arith in ap (λ n. m % 2 ^ n / 2 ^ b) e ∙ field_of m 1 b

up_again : (m x r y : ℕ) → pos m -ℤ pos x ≡ pos (r + y) → m ≡ r + (y + x)
up_again m x r y e = omega (arith, ints)

both_down : (m x r y : ℕ) → pos m -ℤ pos x ≡ pos r -ℤ pos y → m + y ≡ r + x
both_down m x r y e = omega (arith, ints)

-- a value below another by a multiple of a power has its residue
residue_down : (n m c : ℕ) → residue (pos m -ℤ pos (2 ^ n * c)) n ≡ m % 2 ^ n
residue_down n m c =
    let v : ℤ = pos m -ℤ pos (2 ^ n * c) in
    let r : ℕ = residue v n in
    let law = residue_law v n in
    let k : ℕ = law.1.0 in
    ⊎_elim
    (λ (e : v ≡ pos (r + 2 ^ n * k)).
    let is : m ≡ r + 2 ^ n * (k + c) = omega (arith, up_again m (2 ^ n * c) r (2 ^ n * k) e) in
    sym (ap (λ x. x % 2 ^ n) is ∙ add-mul-mod_self_left r (2 ^ n) (k + c) ∙ mod-eq_of_lt law.0))
    (λ (e : v ≡ pos r -ℤ pos (2 ^ n * k)).
    let is : m + 2 ^ n * k ≡ r + 2 ^ n * c = both_down m (2 ^ n * c) r (2 ^ n * k) e in
    sym (sym (add-mul-mod_self_left m (2 ^ n) k) ∙ ap (λ x. x % 2 ^ n) is ∙ add-mul-mod_self_left r (2 ^ n) c ∙ mod-eq_of_lt law.0))
    law.1.1

-- a number with its sign has the number's bits below its width
signed_residue : (g : Bool) (w m b : ℕ) → (g ≡ true → b < w) → residue (with_sign g w m) (suc b) ≡ m % 2 ^ suc b
signed_residue false w m b h = refl
signed_residue true zero m b h = absurd (omega (arith, h refl))
signed_residue true (suc n) m b h = either (leb (2 ^ n) m)
  where
    power : 2 ^ suc n ≡ 2 ^ suc b * 2 ^ (suc n - suc b)
    power = let e : suc n ≡ suc b + (suc n - suc b) = omega (arith, h refl) in ap (λ x. 2 ^ x) e ∙ pow-add 2 (suc b) (suc n - suc b)

    either : (x : Bool) → residue (cond x (pos m -ℤ pos (2 ^ suc n)) (pos m)) (suc b) ≡ m % 2 ^ suc b
    either false = refl
    either true = ap (λ x. residue (pos m -ℤ pos x) (suc b)) power ∙ residue_down (suc b) m (2 ^ (suc n - suc b))

-- a place of a field with a sign is below its width
below_width : (g : Bool) (e : Endian) (o : Order) (n i : ℕ) → IsEvenWhere g e o n → i < n → g ≡ true → place e o n i < n
below_width g Little Msb0 n i ok h s = omega arith
below_width g Little Lsb0 n i ok h s = h
below_width g Big Msb0 n i ok h s = omega arith
below_width true Big Lsb0 n i ok h s = ⊎_elim (λ (x : n ≤ 8). omega arith) (λ (x : n % 8 ≡ 0). omega arith) ok
below_width false Big Lsb0 n i ok h s = cc

-- what a list is worth shows its bits at their places
value_bit : (t : NumberType) (l : Layout) (s : List Bool) (i : ℕ) → IsEvenWhere t.signed l.endian l.order (length s) → i < length s
    → bit_of (value t l s) (place l.endian l.order (length s) i) ≡ cond (get_or s i false) 1 0
unfolding value
value_bit t l s i ok h =
    let b : ℕ = place l.endian l.order (length s) i in
    let m : ℕ = number l.endian l.order s in
    ap (λ x. x / 2 ^ b) (signed_residue t.signed (length s) m b (below_width t.signed l.endian l.order (length s) i ok h)) ∙ low m b ∙ number_bit l.endian l.order s i h

-- and so does the value of an item
pub item_bit : (i : Item) (p : Piece) (j : ℕ) → IsAllowedField i.field → IsPieceOf i p → j < field_width i.field
    → bit_of (integer_of i.value) (place i.field.layout.endian i.field.layout.order (field_width i.field) j) ≡ cond (get_or p.bits j false) 1 0
item_bit i p j ok a h =
    let t : NumberType = number_type i.field.kind in
    let l : Layout = i.field.layout in
    ap (λ v. bit_of v (place l.endian l.order (field_width i.field) j)) (sym (integer_is t.signed (value t l p.bits) i.value a.worth.worth))
    ∙ subst (λ n. IsEvenWhere t.signed l.endian l.order n → j < n → bit_of (value t l p.bits) (place l.endian l.order n j) ≡ cond (get_or p.bits j false) 1 0)
    a.worth.wide (λ even below. value_bit t l p.bits j even below) ok.even h
