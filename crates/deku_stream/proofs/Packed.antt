-- Numbers of so many bits: cut in two, and put side by side.
use Rattle.std.proofs.Common.{ℕ, zero, suc, ◌+◌, ◌*◌, ◌-◌, ◌/◌, ◌%◌, ◌^◌, ◌<◌, ◌≤◌, ◌≡◌, eqb, ◌∷◌, ◌++◌, take, refl, ap, ap₂, sym, ◌∙◌, arith, mod-lt, mod-eq_of_lt}
use Rattle.std.proofs.lemmas.List.{take_at}
use Rattle.std.proofs.lemmas.Nat.{shr-shr, pow_pos, pow-add, shl_whole, mul-add-lt, div-mul-add, mod-mul-add}
use Rattle.std.proofs.Math.Nat.{pow-le-pow_right}
use Rattle.deku_stream.specs.Bits.{bin, bits_of, byte_bits}
use Rattle.deku_stream.proofs.Binary.{length-bits_of, bin-bits_of, bin-inj}

-- ---- cut and joined
-- the bits of two parts of a number
pub bits_of-split : (m n v : ℕ) → bits_of (m + n) v ≡ bits_of m (v / 2 ^ n) ++ bits_of n v
unfolding bits_of
bits_of-split zero n v = let none : 0 + n ≡ n = omega arith in rw none refl
bits_of-split (suc m) n v =
    let same : suc m + n ≡ suc (m + n) = omega arith in
    let top : v / 2 ^ (m + n) ≡ v / 2 ^ n / 2 ^ m = ap (λ k. v / 2 ^ k) (omega arith) ∙ sym (shr-shr v n m) in
    rw same (ap₂ (λ x s. eqb (x % 2) 1 ∷ s) top (bits_of-split m n v))

-- higher bits of a number are not seen
pub bits_of-low : (n v : ℕ) → bits_of n (v % 2 ^ n) ≡ bits_of n v
bits_of-low n v =
    bin-inj (bits_of n (v % 2 ^ n)) (bits_of n v) (length-bits_of n (v % 2 ^ n) ∙ sym (length-bits_of n v))
    (bin-bits_of n (v % 2 ^ n) ∙ mod-eq_of_lt (mod-lt v (pow_pos n)) ∙ sym (bin-bits_of n v))

-- the number of a number's bits
pub bin-whole : (n v : ℕ) → v < 2 ^ n → bin (bits_of n v) ≡ v
bin-whole n v h = bin-bits_of n v ∙ mod-eq_of_lt h

-- the bits of two numbers, one after the other
pub bits_of-join : (m n a b : ℕ) → b < 2 ^ n → bits_of m a ++ bits_of n b ≡ bits_of (m + n) (a * 2 ^ n + b)
bits_of-join m n a b h =
    sym (bits_of-split m n (a * 2 ^ n + b)
    ∙ ap₂ (λ x y. bits_of m x ++ y) (div-mul-add a (2 ^ n) b h)
    (sym (bits_of-low n (a * 2 ^ n + b)) ∙ ap (bits_of n) (mod-mul-add a (2 ^ n) b h)))

-- their number is one of as many bits
pub joined_below : (a b x y : ℕ) → x < 2 ^ a → y < 2 ^ b → x * 2 ^ b + y < 2 ^ (a + b)
joined_below a b x y p q = rw pow-add (omega (arith, mul-add-lt x (2 ^ b) y (2 ^ a) p q))

-- ---- numbers that fit
-- at most eight bits are below a byte's end
pub pow_byte : (k : ℕ) → k ≤ 8 → 2 ^ k ≤ 256
pow_byte k h = pow-le-pow_right (omega arith) h

-- shifted by at most eight bits, at most eight lose none
pub shifted : (n v k : ℕ) → v < 2 ^ n → n ≤ 8 → k ≤ 8 → v * 2 ^ k % 2 ^ 16 ≡ v * 2 ^ k
shifted n v k h l m = shl_whole v n k 16 h (omega arith)

pub byte_shifted : (v k : ℕ) → v < 2 ^ 8 → k ≤ 8 → v * 2 ^ k % 2 ^ 16 ≡ v * 2 ^ k
byte_shifted v k h l = shifted 8 v k h (omega arith) l

-- ---- bits at the front of a byte
pub front_of_byte : (n v : ℕ) → n ≤ 8 → v < 2 ^ n → take n (byte_bits (v * 2 ^ (8 - n))) ≡ bits_of n v
unfolding byte_bits
front_of_byte n v l inside =
    let e : n + (8 - n) ≡ 8 = omega arith in
    let z : v * 2 ^ (8 - n) + 0 ≡ v * 2 ^ (8 - n) = omega arith in
    let j = sym (bits_of-join n (8 - n) v 0 (pow_pos (8 - n))) in
    let k : bits_of 8 (v * 2 ^ (8 - n)) ≡ bits_of n v ++ bits_of (8 - n) 0 = rw (e, z) at j in
    ap (take n) k ∙ take_at (bits_of n v) (bits_of (8 - n) 0) n (length-bits_of n v)

-- and the number of that byte
pub front_whole : (n v : ℕ) → n ≤ 8 → v < 2 ^ n → v * 2 ^ (8 - n) % 2 ^ 16 ≡ v * 2 ^ (8 - n)
front_whole n v l inside = shifted n v (8 - n) inside l (omega arith)

pub front_below : (n v : ℕ) → n ≤ 8 → v < 2 ^ n → v * 2 ^ (8 - n) % 2 ^ 16 < 2 ^ 8
front_below n v l inside =
    let e : n + (8 - n) ≡ 8 = omega arith in
    let z : v * 2 ^ (8 - n) + 0 ≡ v * 2 ^ (8 - n) = omega arith in
    let j : v * 2 ^ (8 - n) + 0 < 2 ^ 8 = rw e at (joined_below n (8 - n) v 0 inside (pow_pos (8 - n))) in
    rw (front_whole n v l inside) (omega arith)

pub ruleset lengths = (length-bits_of)
