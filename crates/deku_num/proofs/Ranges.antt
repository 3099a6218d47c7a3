-- What a field reads is a value of its kind; byte sizes; one group more.
use Rattle.std.proofs.Common.{ℕ, zero, suc, ◌+◌, ◌*◌, ◌-◌, ◌%◌, ◌^◌, ◌<◌, ◌≤◌, ◌≡◌, Bool, true, false, List, ◌++◌, length, refl, ap, sym, ◌∙◌, arith, append_assoc, length-append, subst₂}
use Rattle.std.proofs.lemmas.Nat.{pow_pos, pow-add}
use Rattle.std.proofs.lemmas.Int.{ints}
use native.Mathlib.Nat.{pow-le-pow_right}
use Rattle.deku_bits.specs.declared.ctx.Order.{Order}
use Rattle.deku_bits.specs.declared.ctx.Order.TheVariants.{Msb0, Lsb0}
use Rattle.deku_num.specs.declared.ctx.Endian.{Endian}
use Rattle.deku_num.specs.declared.ctx.Endian.TheVariants.{Little, Big}
use Rattle.deku_num.specs.declared.ctx.Layout.{Layout}
use Rattle.deku_bits.specs.Bits.{groups}
use Rattle.deku_num.specs.NumberLaws.{Within, InType, TypeLaw, ByteLaw, SplitLaw, GroupLaw}
use Rattle.deku_num.specs.Numbers.{number, with_sign, width, NumberType, IsEvenWhere, value, IsAllowed}
use Rattle.deku_bits.proofs.Binary.{bin-append, group_number-lt}
use Rattle.deku_bits.proofs.Groups.{by_groups}
use Rattle.deku_num.proofs.Chunked.{number-inj, within, listed, number_one, little-full, big-full}
use Rattle.deku_num.proofs.Values.{plain, range_of, plain_whole, eights}

grown : (m n b : ℕ) → m < 2 ^ n → n ≤ b → m < 2 ^ b
unfolding number value
grown m n b h l = omega (arith, pow-le-pow_right {n = 2} (omega arith) {i = n} {j = b} l)

pub below_type : (e : Endian) (o : Order) (n b m : ℕ) → b % 8 ≡ 0 → n ≤ b → Within e o n m → m < 2 ^ b
unfolding number value
below_type Little Msb0 n b m d l w = grown m n b w l
below_type Little Lsb0 n b m d l w = grown m n b w l
below_type Big Msb0 n b m d l w = grown m n b w l
below_type Big Lsb0 n b m d l w = grown m (8 * groups n) b (rw (eights (groups n)) w.0) (omega arith)

in_type : (g : Bool) (e : Endian) (o : Order) (n b : ℕ) → IsEvenWhere g e o n → b % 8 ≡ 0 → n ≤ b → (s : List Bool) → length s ≡ n → InType g b (with_sign g n (number e o s))
unfolding number value
in_type false e o n b h d l s w = (number e o s, refl, below_type e o n b (number e o s) d l (rw w at (within e o s)))
in_type true e o zero b h d l s w =
    let r = range_of true e o zero h s w in
    let p : 0 < 2 ^ (b - 1) = pow_pos (b - 1) in
    (omega (arith, ints, r), omega (arith, ints, r))
in_type true e o (suc n) b h d l s w =
    let r = range_of true e o (suc n) h s w in
    let p : 2 ^ n ≤ 2 ^ (b - 1) = pow-le-pow_right {n = 2} (omega arith) {i = n} {j = b - 1} (omega arith) in
    (omega (arith, ints, r.0), omega (arith, ints, r.1))

pub type_law : TypeLaw
unfolding number value
type_law t l d ok s w =
    rw w (in_type t.signed l.endian l.order (width t l) t.bits (ok.even) d (ok.within) s w)

pub range_whole : (e : Endian) (o : Order) (n m : ℕ) → n % 8 ≡ 0 → m < 2 ^ n → Within e o n m
unfolding number value
range_whole Little Msb0 n m d h = h
range_whole Little Lsb0 n m d h = h
range_whole Big Msb0 n m d h = h
range_whole Big Lsb0 n m d h = (plain_whole n m d).1 h

pub byte_law : ByteLaw
unfolding number value
byte_law e o n m d h =
    let r = listed e o n m (range_whole e o n m d h) in
    (r.0, r.1, r.2, λ t w v. number-inj e o t r.0 (w ∙ sym r.1) (v ∙ sym r.2))

-- ---- whole groups and what is after them
little-split : (o : Order) (s t : List Bool) → length s % 8 ≡ 0 → number Little o (s ++ t) ≡ number Little o s + number Little o t * 2 ^ length s
unfolding number value
little-split o s t = by_groups (λ s. length s % 8 ≡ 0 → number Little o (s ++ t) ≡ number Little o s + number Little o t * 2 ^ length s)
    (λ d. omega arith)
    (λ s q k d. absurd (omega arith))
    (λ h s q ih d.
    let i = ih (omega (arith, length-append h s)) in
    ap (number Little o) (append_assoc h s t) ∙ little-full o h (s ++ t) q ∙ rw (i, little-full o h s q, length-append h s, q, pow-add 2 8 (length s)) (omega arith))
    s

big-split : (s t : List Bool) → length s % 8 ≡ 0 → number Big Lsb0 (s ++ t) ≡ number Big Lsb0 s * 256 ^ groups (length t) + number Big Lsb0 t
unfolding number value
big-split s t = by_groups (λ s. length s % 8 ≡ 0 → number Big Lsb0 (s ++ t) ≡ number Big Lsb0 s * 256 ^ groups (length t) + number Big Lsb0 t)
    (λ d. omega arith)
    (λ s q k d. absurd (omega arith))
    (λ h s q ih d.
    let m : length s % 8 ≡ 0 = omega (arith, length-append h s) in
    let i = ih m in
    let both : groups (length (s ++ t)) ≡ groups (length s) + groups (length t) = omega (arith, length-append s t) in
    ap (number Big Lsb0) (append_assoc h s t) ∙ big-full Lsb0 h (s ++ t) q
    ∙ rw (i, big-full Lsb0 h s q, both, pow-add 256 (groups (length s)) (groups (length t))) (omega arith))
    s

pub split_law : SplitLaw
unfolding number value
split_law o s t d = (little-split o s t d, bin-append s t, big-split s t d)

pub group_law : GroupLaw
unfolding number value
group_law e o g p l = (number_one e o g p l, group_number-lt o g)

-- what a signed field's list has for its number is below 2 ^ n
pub signed_below : (t : NumberType) (l : Layout) (s : List Bool) → IsAllowed t l → length s ≡ width t l → t.signed ≡ true → number l.endian l.order s < 2 ^ length s
unfolding number value
signed_below t l s ok w g =
    (plain l.endian l.order (length s) (subst₂ (λ b m. IsEvenWhere b l.endian l.order m) g (sym w) (ok.even)) (number l.endian l.order s)).0 (within l.endian l.order s)
