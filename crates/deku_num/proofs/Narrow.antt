-- Words of at most 64 bits: what is turned and cut over 64 bits is the same as over 128.
use Rattle.std.proofs.Common.{◌≡◌, ℕ, ◌+◌, ◌*◌, ◌-◌, ◌/◌, ◌%◌, ◌^◌, ◌<◌, ◌≤◌, Bool, List, [], ◌∷◌, length, arith, refl, sym, ap, ap₂, ◌∙◌}
use Rattle.std.proofs.lemmas.Nat.{one_shl, shr-shr, shl-shr}
use Rattle.std.proofs.Math.Pow.{mod-mod-pow}
use native.Mathlib.Nat.{pow-le-pow_right}
use Rattle.std.specs.Int.{w64, w128, swap_bytes}
use Rattle.deku_bits.specs.declared.ctx.Order.{Order}
use Rattle.deku_bits.specs.declared.ctx.Order.TheVariants.{Msb0, Lsb0}
use Rattle.deku_bits.specs.Bits.{groups, word_of}
use Rattle.deku_num.specs.declared.ctx.Endian.{Endian}
use Rattle.deku_num.specs.declared.ctx.Endian.TheVariants.{Little, Big}
use Rattle.deku_num.specs.Numbers.{number}
use Rattle.deku_num.proofs.Chunked.{number_one, little_below, big_below}
use Rattle.deku_num.proofs.Turned.{word_is}
use Rattle.deku_num.proofs.Values.{eights}

-- eight bytes turned among sixteen are at the top
swap_wide : (n : ℕ) → n < 2 ^ 64 → swap_bytes w128 n ≡ swap_bytes w64 n * 2 ^ 64
swap_wide n h = omega arith

-- so what is shifted down from there is the same
pub turned_narrow : (n x k : ℕ) → n < 2 ^ 64 → x ≡ swap_bytes w64 n → k ≤ 8 → x / 2 ^ (64 - 8 * k) ≡ swap_bytes w128 n / 2 ^ (128 - 8 * k)
turned_narrow n x k h e l =
    let m : ℕ = 64 - 8 * k in
    let places : 128 - 8 * k ≡ 64 + m = omega arith in
    sym (ap₂ (λ u v. u / 2 ^ v) (swap_wide n h ∙ ap (λ z. z * 2 ^ 64) (sym e)) places ∙ sym (shr-shr (x * 2 ^ 64) 64 m) ∙ ap (λ z. z / 2 ^ m) (shl-shr x 64))

-- one group alone is its own number, and so are no bits
no_bits : (e : Endian) (o : Order) → word_of o [] ≡ number e o []
unfolding number
no_bits Little o = refl
no_bits Big Msb0 = refl
no_bits Big Lsb0 = refl

pub one_group : (e : Endian) (o : Order) (s : List Bool) → length s ≤ 8 → word_of o s ≡ number e o s
one_group e o [] l = no_bits e o
one_group e o (b ∷ s) l = word_is o (b ∷ s) ∙ number_one Little o (b ∷ s) (omega arith) l ∙ sym (number_one e o (b ∷ s) (omega arith) l)

-- the number of at most 64 bits has no more
pub number_narrow : (e : Endian) (o : Order) (s : List Bool) → length s ≤ 64 → number e o s < 2 ^ 64
number_narrow Little o s l = omega (arith, little_below o s, pow-le-pow_right {n = 2} (omega arith) {i = length s} {j = 64} l)
number_narrow Big Msb0 s l = omega (arith, big_below Msb0 s, pow-le-pow_right {n = 2} (omega arith) {i = length s} {j = 64} l)
number_narrow Big Lsb0 s l =
    let top : 2 ^ (8 * groups (length s)) ≤ 2 ^ 64 = pow-le-pow_right {n = 2} (omega arith) {i = 8 * groups (length s)} {j = 64} (omega arith) in
    omega (arith, big_below Lsb0 s, eights (groups (length s)), top)

-- the lowest bits, of 64 bits or of more
pub low_narrow : (v n : ℕ) → n < 64 → v % 2 ^ 64 % (1 * 2 ^ n % 2 ^ 64) ≡ v % 2 ^ n
low_narrow v n h =
    let all : 64 ≡ (64 - n) + n = omega arith in
    ap (λ k. v % 2 ^ 64 % k) (one_shl n 64 h) ∙ ap (λ k. v % 2 ^ k % 2 ^ n) all ∙ mod-mod-pow v (64 - n) n
