-- Eight bytes that go through a window: what goes out, and what is left in it.
use Rattle.std.proofs.Common.{ℕ, zero, suc, ◌+◌, ◌*◌, ◌-◌, ◌/◌, ◌%◌, ◌^◌, ◌<◌, ◌≤◌, ◌≡◌, Bool, List, ◌++◌, reverse, length, All, refl, ap, ap₂, sym, ◌∙◌, subst, arith, mod-lt}
use Rattle.std.proofs.lemmas.List.{reverse-append}
use Rattle.std.proofs.lemmas.Nat.{shr_below, one_shl, pow_pos, from_le_bytes-to_le_bytes_8}
use Rattle.std.proofs.Math.Nat.{pow-le-pow_right}
use Rattle.std.specs.Int.{w64, from_be_bytes, from_le_bytes, to_be_bytes, to_le_bytes}
use Rattle.deku_stream.specs.declared.ctx.Order.TheVariants.{Msb0, Lsb0}
use Rattle.deku_stream.specs.Bits.{bits_of}
use Rattle.deku_stream.specs.Streams.{flow}
use Rattle.deku_stream.proofs.Bytes.{IsByte}
use Rattle.deku_stream.proofs.Packed.{joined_below}
use Rattle.deku_stream.proofs.Across.{high_cut, low_cut, held_shifted, low_shifted}
use Rattle.deku_stream.proofs.EightBytes.{high_bits, low_bits, flow_high, low_first_bytes}

-- the number of a window's bits and of all of 64 but the low ones, which are left
pub through_high_is : (w v e : ℕ) (s : List Bool) → bits_of w v ≡ s → v < 2 ^ w → w ≤ 8 → e < 2 ^ 64
    → (v * 2 ^ ((64 - w) % 64) % 2 ^ 64 + e / 2 ^ w < 2 ^ 64)
    × (s ++ bits_of 64 e ≡ bits_of 64 (v * 2 ^ ((64 - w) % 64) % 2 ^ 64 + e / 2 ^ w) ++ bits_of w (e % (1 * 2 ^ w % 2 ^ 64)))
through_high_is w v e s view small few fits =
    let b : ℕ = 64 - w in
    let all : b + w ≡ 64 = omega arith in
    let sum : w + b ≡ 64 = omega arith in
    let back : 64 - b ≡ w = omega arith in
    let whole : e / 2 ^ (64 - (b + w)) ≡ e = ap (λ k. e / 2 ^ (64 - k)) all ∙ omega arith in
    let held : v * 2 ^ (b % 64) % 2 ^ 64 ≡ v * 2 ^ b = held_shifted w v b small (omega arith) in
    let one : 1 * 2 ^ w % 2 ^ 64 ≡ 2 ^ w = one_shl w 64 (omega arith) in
    let below : e / 2 ^ w < 2 ^ b = shr_below e b w (subst (λ k. e < 2 ^ k) (sym all) fits) in
    let inside : v * 2 ^ b + e / 2 ^ w < 2 ^ 64 = subst (λ k. v * 2 ^ b + e / 2 ^ w < 2 ^ k) sum (joined_below w b v (e / 2 ^ w) small below) in
    let cut : s ++ bits_of 64 e ≡ bits_of 64 (v * 2 ^ b + e / 2 ^ w) ++ bits_of w (e % 2 ^ w) =
    ap (λ x. x ++ bits_of 64 e) (sym view)
    ∙ ap₂ (λ k x. bits_of w v ++ bits_of k x) (sym all) (sym whole)
    ∙ high_cut w b w v e (omega arith) fits
    ∙ ap₂ (λ k j. bits_of k (v * 2 ^ b + e / 2 ^ j) ++ bits_of w (e / 2 ^ (64 - (b + w)) % 2 ^ w)) sum back
    ∙ ap (λ x. bits_of 64 (v * 2 ^ b + e / 2 ^ w) ++ bits_of w (x % 2 ^ w)) whole in
    (rw held inside, rw (held, one) cut)

-- the number of all of 64 bits but the high ones, which are left, and of a window's bits
pub through_low_is : (w v e : ℕ) (s : List Bool) → bits_of w v ≡ s → v < 2 ^ w → w ≤ 8
    → (e * 2 ^ w % 2 ^ 64 + v < 2 ^ 64)
    × (bits_of 64 e ++ s ≡ bits_of w (e / 2 ^ ((64 - w) % 64) % (1 * 2 ^ w % 2 ^ 64)) ++ bits_of 64 (e * 2 ^ w % 2 ^ 64 + v))
through_low_is w v e s view small few =
    let b : ℕ = 64 - w in
    let all : b + w ≡ 64 = omega arith in
    let sum : w + b ≡ 64 = omega arith in
    let back : 64 - b ≡ w = omega arith in
    let low : e * 2 ^ w % 2 ^ 64 ≡ e % 2 ^ b * 2 ^ w = subst (λ k. e * 2 ^ k % 2 ^ 64 ≡ e % 2 ^ b * 2 ^ k) back (low_shifted e b (omega arith)) in
    let one : 1 * 2 ^ w % 2 ^ 64 ≡ 2 ^ w = one_shl w 64 (omega arith) in
    let rest : e / 2 ^ (b % 64) % 2 ^ w ≡ e / 2 ^ b % 2 ^ w = none_left w b e sum in
    let inside : e % 2 ^ b * 2 ^ w + v < 2 ^ 64 = subst (λ k. e % 2 ^ b * 2 ^ w + v < 2 ^ k) all (joined_below b w (e % 2 ^ b) v (mod-lt e (pow_pos b)) small) in
    let cut : bits_of 64 e ++ s ≡ bits_of w (e / 2 ^ b % 2 ^ w) ++ bits_of 64 (e % 2 ^ b * 2 ^ w + v) =
    ap₂ (λ k x. bits_of k e ++ x) (sym sum) (sym view)
    ∙ low_cut w b w v e small
    ∙ ap (λ k. bits_of w (e / 2 ^ b % 2 ^ w) ++ bits_of k (e % 2 ^ b * 2 ^ w + v)) all in
    (rw low inside, rw (low, one, rest) cut)
  where
    none_left : (w b e : ℕ) → w + b ≡ 64 → e / 2 ^ (b % 64) % 2 ^ w ≡ e / 2 ^ b % 2 ^ w
    none_left zero b e q = omega arith
    none_left (suc w) b e q = let same : b % 64 ≡ b = omega (arith, q) in ap (λ k. e / 2 ^ k % 2 ^ suc w) same

-- in `Msb0`
pub eight_through_high : (w u : List Bool) (bytes : List ℕ) (n : ℕ) → length bytes ≡ 8 → All IsByte bytes
    → w ++ bits_of 64 (from_be_bytes w64 bytes) ≡ bits_of 64 n ++ u → w ++ flow Msb0 bytes ≡ flow Msb0 (to_be_bytes w64 n) ++ u
eight_through_high w u bytes n l h cut =
    ap (λ s. w ++ s) (high_bits bytes l h) ∙ cut ∙ ap (λ s. s ++ u) (sym (flow_high 8 n))

-- in `Lsb0`
pub eight_through_low : (w u : List Bool) (bytes : List ℕ) (n : ℕ) → length bytes ≡ 8 → All IsByte bytes → n < 2 ^ 64
    → bits_of 64 (from_le_bytes w64 bytes) ++ w ≡ u ++ bits_of 64 n → reverse w ++ flow Lsb0 bytes ≡ flow Lsb0 (to_le_bytes w64 n) ++ reverse u
eight_through_low w u bytes n l h fits cut =
    let x : List Bool = bits_of 64 (from_le_bytes w64 bytes) in
    let own : flow Lsb0 (to_le_bytes w64 n) ≡ reverse (bits_of 64 n) =
    low_bits (to_le_bytes w64 n) refl (low_first_bytes 0 8 n) ∙ ap (λ k. reverse (bits_of 64 k)) (from_le_bytes-to_le_bytes_8 n fits) in
    ap (λ s. reverse w ++ s) (low_bits bytes l h) ∙ sym (reverse-append x w) ∙ ap reverse cut ∙ reverse-append u (bits_of 64 n) ∙ ap (λ s. s ++ reverse u) (sym own)

-- so many low bits of a number are a byte
pub byte_masked : (w x : ℕ) → w ≤ 8 → x % (1 * 2 ^ w % 2 ^ 64) < 256
byte_masked w x few =
    let one : 1 * 2 ^ w % 2 ^ 64 ≡ 2 ^ w = one_shl w 64 (omega arith) in
    let top : 2 ^ w ≤ 2 ^ 8 = pow-le-pow_right {n = 2} (omega arith) {i = w} {j = 8} few in
    rw one (omega (arith, mod-lt x (pow_pos w), top))
