-- Words of the bits of a window and of eight bytes after it, through numbers of at most 64 bits.
use Rattle.std.proofs.Common.{ℕ, ◌+◌, ◌*◌, ◌-◌, ◌/◌, ◌%◌, ◌^◌, ◌<◌, ◌≤◌, ◌≡◌, Bool, List, [], ◌++◌, reverse, length, take, All, ap, ap₂, sym, ◌∙◌, subst, arith, append-nil, append_assoc, length-take-le, mod-lt, ⊎_elim}
use Rattle.std.proofs.lemmas.List.{reverse-append, reverse-reverse, length-reverse, nil_from_length}
use Rattle.std.proofs.lemmas.List.Elements.{All-take}
use Rattle.std.proofs.lemmas.Nat.{shr-shr, shr_below, shr_split, shl_below, shl-shr, shl_whole, mod-mul-add, one_shl, pow_pos, pow-add}
use Rattle.std.proofs.lemmas.Bool.{cases_lt}
use Rattle.std.proofs.Math.Nat.{pow-le-pow_right}
use Rattle.std.specs.Int.{w64, from_be_bytes, from_le_bytes}
use Rattle.deku_stream.specs.declared.ctx.Order.{Order}
use Rattle.deku_stream.specs.declared.ctx.Order.TheVariants.{Msb0, Lsb0}
use Rattle.deku_stream.specs.Bits.{bin, bits_of, groups, little, word_of}
use Rattle.deku_stream.specs.Streams.{flow}
use Rattle.deku_stream.specs.Moving.{TakesWord}
use Rattle.deku_stream.proofs.Binary.{length-bits_of, bin-lt}
use Rattle.deku_stream.proofs.Bytes.{IsByte}
use Rattle.deku_stream.proofs.Cuts.{length-flow}
use Rattle.deku_stream.proofs.Packed.{bits_of-split, bits_of-low, bits_of-join, bin-whole, joined_below}
use Rattle.deku_stream.proofs.Reading.{facing_nil}
use Rattle.deku_stream.proofs.Words.{byte_groups}
use Rattle.deku_stream.proofs.EightBytes.{bits_of-bin, low_eight, word_low, high_front, low_front, little_front}

-- ---- a window and a number of 64 bits after it
-- the high bits of it
pub high_cut : (w b s v e : ℕ) → b + s ≤ 64 → e < 2 ^ 64
    → bits_of w v ++ bits_of (b + s) (e / 2 ^ (64 - (b + s))) ≡ bits_of (w + b) (v * 2 ^ b + e / 2 ^ (64 - b)) ++ bits_of s (e / 2 ^ (64 - (b + s)) % 2 ^ s)
high_cut w b s v e fits small =
    let x : ℕ = e / 2 ^ (64 - (b + s)) in
    let y : ℕ = e / 2 ^ (64 - b) in
    let all : 64 ≡ b + (64 - b) = omega arith in
    let below : y < 2 ^ b = shr_below e b (64 - b) (subst (λ n. e < 2 ^ n) all small) in
    let top : x / 2 ^ s ≡ y = shr-shr e (64 - (b + s)) s ∙ ap (λ n. e / 2 ^ n) (omega arith) in
    ap (λ z. bits_of w v ++ z) (bits_of-split b s x ∙ ap₂ (λ p q. bits_of b p ++ q) top (sym (bits_of-low s x)))
    ∙ sym (append_assoc (bits_of w v) (bits_of b y) (bits_of s (x % 2 ^ s)))
    ∙ ap (λ z. z ++ bits_of s (x % 2 ^ s)) (bits_of-join w b v y below)

-- the low bits of it
pub low_cut : (w b s v e : ℕ) → v < 2 ^ w → bits_of (s + b) e ++ bits_of w v ≡ bits_of s (e / 2 ^ b % 2 ^ s) ++ bits_of (b + w) (e % 2 ^ b * 2 ^ w + v)
low_cut w b s v e small =
    ap (λ z. z ++ bits_of w v) (bits_of-split s b e ∙ ap₂ (λ p q. p ++ q) (sym (bits_of-low s (e / 2 ^ b))) (sym (bits_of-low b e)))
    ∙ append_assoc (bits_of s (e / 2 ^ b % 2 ^ s)) (bits_of b (e % 2 ^ b)) (bits_of w v)
    ∙ ap (λ z. bits_of s (e / 2 ^ b % 2 ^ s) ++ z) (bits_of-join b w (e % 2 ^ b) v small)

-- ---- words of a window and eight bytes
-- in `Msb0`
pub word_across_high : (w u : List Bool) (bytes : List ℕ) (n number word : ℕ) → length bytes ≡ 8 → All IsByte bytes → length w < n → n ≤ 64
    → w ++ bits_of (8 * groups (n - length w)) (from_be_bytes w64 bytes / 2 ^ (64 - 8 * groups (n - length w))) ≡ bits_of n number ++ u
    → word ≡ word_of Msb0 (bits_of n number) → TakesWord Msb0 w (take (groups (n - length w)) bytes) n word u
word_across_high w u bytes n number word l h more few cut worth = record {
  bits = bits_of n number;
  long = length-bits_of n number;
  cut = ap (λ s. w ++ s) (high_front (groups (n - length w)) bytes (omega arith) l h) ∙ cut;
  worth = worth;
}

-- in `Msb0`, their bits
pub high_across : (w u : List Bool) (bytes : List ℕ) (n number : ℕ) → length bytes ≡ 8 → All IsByte bytes → length w < n → n ≤ 64
    → w ++ bits_of (8 * groups (n - length w)) (from_be_bytes w64 bytes / 2 ^ (64 - 8 * groups (n - length w))) ≡ bits_of n number ++ u
    → w ++ flow Msb0 (take (groups (n - length w)) bytes) ≡ bits_of n number ++ u
high_across w u bytes n number l h more few cut = ap (λ s. w ++ s) (high_front (groups (n - length w)) bytes (omega arith) l h) ∙ cut

-- of whole bytes after no bits none is left
pub high_whole : (w : List Bool) (bytes : List ℕ) (n : ℕ) → length bytes ≡ 8 → All IsByte bytes → length w ≡ 0 → n % 8 ≡ 0 → n ≤ 64
    → w ++ flow Msb0 (take (groups (n - length w)) bytes) ≡ bits_of n (from_be_bytes w64 bytes / 2 ^ (64 - n)) ++ w
high_whole w bytes n l h none whole few =
    let nothing : w ≡ [] = nil_from_length w none in
    let places : 8 * groups (n - length {A = Bool} []) ≡ n = omega arith in
    rw nothing (high_front (groups (n - length {A = Bool} [])) bytes (omega arith) l h ∙ ap (λ k. bits_of k (from_be_bytes w64 bytes / 2 ^ (64 - k))) places
    ∙ sym (append-nil (bits_of n (from_be_bytes w64 bytes / 2 ^ (64 - n)))))

-- the high bits of 64 are so many
pub high_below : (e n : ℕ) → e < 2 ^ 64 → n ≤ 64 → e / 2 ^ (64 - n) < 2 ^ n
high_below e n fits few =
    let places : 64 ≡ n + (64 - n) = omega arith in
    shr_below e n (64 - n) (subst (λ k. e < 2 ^ k) places fits)

-- in `Lsb0`
pub word_across_low : (w u : List Bool) (bytes : List ℕ) (n number : ℕ) → length bytes ≡ 8 → All IsByte bytes → length w < n → n ≤ 64 → number < 2 ^ n
    → bits_of (8 * groups (n - length w)) (from_le_bytes w64 bytes) ++ w ≡ u ++ bits_of n number
    → TakesWord Lsb0 w (take (groups (n - length w)) bytes) n number u
word_across_low w u bytes n number l h more few small cut =
    let k : ℕ = groups (n - length w) in
    let s : List Bool = reverse (bits_of n number) in
    let x : List Bool = bits_of (8 * k) (from_le_bytes w64 bytes) in record {
      bits = s;
      long = length-reverse (bits_of n number) ∙ length-bits_of n number;
      cut = ap (λ z. reverse w ++ z) (low_front k bytes (omega arith) l h) ∙ sym (reverse-append x w) ∙ ap reverse cut ∙ reverse-append u (bits_of n number);
      worth = sym (word_low s ∙ ap bin (reverse-reverse (bits_of n number)) ∙ bin-whole n number small);
    }

-- in `Lsb0`, their bits
pub low_bits_taken : (w u : List Bool) (bytes : List ℕ) (n k : ℕ) → TakesWord Lsb0 w bytes n k u → (k < 2 ^ n) × (reverse w ++ flow Lsb0 bytes ≡ reverse (bits_of n k) ++ reverse u)
low_bits_taken w u bytes n k t =
    let long : length (reverse t.bits) ≡ n = length-reverse t.bits ∙ t.long in
    let worth : k ≡ bin (reverse t.bits) = t.worth ∙ word_low t.bits in
    let same : bits_of n k ≡ reverse t.bits = ap₂ bits_of (sym long) worth ∙ bits_of-bin (reverse t.bits) in (
      rw (worth, ← long) (bin-lt (reverse t.bits)),
      t.cut ∙ ap (λ s. s ++ reverse u) (sym (ap reverse same ∙ reverse-reverse t.bits)),
    )

-- of whole bytes after no bits none is left
pub low_whole : (w : List Bool) (bytes : List ℕ) (n k : ℕ) → length w ≡ 0 → TakesWord Lsb0 [] (take (groups n) bytes) n k []
    → (k < 2 ^ n) × (reverse w ++ flow Lsb0 (take (groups (n - length w)) bytes) ≡ reverse (bits_of n k) ++ reverse w)
low_whole w bytes n k none t =
    let nothing : w ≡ [] = nil_from_length w none in
    let same : n - length {A = Bool} [] ≡ n = omega arith in
    rw (nothing, same) (low_bits_taken [] [] (take (groups n) bytes) n k t)

-- as the code has them
pub held_shifted : (w v b : ℕ) → v < 2 ^ w → w + b ≤ 64 → v * 2 ^ (b % 64) % 2 ^ 64 ≡ v * 2 ^ b
held_shifted w v b small few = ⊎_elim
    (λ (h : b < 64).
    let same : b % 64 ≡ b = omega arith in
    rw same (shl_whole v w b 64 small few))
    (λ (h : 64 ≤ b).
    let none : w ≡ 0 = omega arith in
    let zero_is : v ≡ 0 = omega (arith, subst (λ k. v < 2 ^ k) none small) in
    rw zero_is (omega arith))
    (cases_lt b 64)

-- the number of a window's bits and of the high bits of 64, and the bits that are left
pub across_high_is : (w v n e : ℕ) (s : List Bool) → bits_of w v ≡ s → v < 2 ^ w → w < 8 → w < n → n ≤ 64 → e < 2 ^ 64
    → (v * 2 ^ ((n - w) % 64) % 2 ^ 64 + e / 2 ^ (64 - (n - w)) < 2 ^ n)
    × (s ++ bits_of (8 * groups (n - length s)) (e / 2 ^ (64 - 8 * groups (n - length s)))
    ≡ bits_of n (v * 2 ^ ((n - w) % 64) % 2 ^ 64 + e / 2 ^ (64 - (n - w))) ++ bits_of ((64 - (n - w)) % 8) (e / 2 ^ (64 - (n - w) - (64 - (n - w)) % 8) % (1 * 2 ^ ((64 - (n - w)) % 8) % 2 ^ 64)))
across_high_is w v n e s view small short more few fits =
    let b : ℕ = n - w in
    let r : ℕ = (64 - b) % 8 in
    let held : v * 2 ^ (b % 64) % 2 ^ 64 ≡ v * 2 ^ b = held_shifted w v b small (omega arith) in
    let long : length s ≡ w = sym (ap length view) ∙ length-bits_of w v in
    let bits : 8 * groups (n - length s) ≡ b + r = ap (λ k. 8 * groups (n - k)) long ∙ omega arith in
    let shift : 64 - (b + r) ≡ 64 - b - r = omega arith in
    let all : w + b ≡ n = omega arith in
    let places : 64 ≡ b + (64 - b) = omega arith in
    let below : e / 2 ^ (64 - b) < 2 ^ b = shr_below e b (64 - b) (subst (λ k. e < 2 ^ k) places fits) in
    let sum : v * 2 ^ b + e / 2 ^ (64 - b) < 2 ^ n = subst (λ k. v * 2 ^ b + e / 2 ^ (64 - b) < 2 ^ k) all (joined_below w b v (e / 2 ^ (64 - b)) small below) in
    let cut = high_cut w b r v e (omega arith) fits in
    let one : 1 * 2 ^ r % 2 ^ 64 ≡ 2 ^ r = one_shl r 64 (omega arith) in (
      rw held sum,
      rw (held, one) (ap₂ (λ x k. x ++ bits_of k (e / 2 ^ (64 - k))) (sym view) bits ∙ cut
          ∙ ap₂ (λ k j. bits_of k (v * 2 ^ b + e / 2 ^ (64 - b)) ++ bits_of r (e / 2 ^ j % 2 ^ r)) all shift),
    )

-- of the low bits of 64
pub low_shifted : (e b : ℕ) → b ≤ 64 → e * 2 ^ (64 - b) % 2 ^ 64 ≡ e % 2 ^ b * 2 ^ (64 - b)
low_shifted e b few =
    let a : ℕ = 64 - b in
    let all : b + a ≡ 64 = omega arith in
    let whole : 2 ^ b * 2 ^ a ≡ 2 ^ 64 = sym (pow-add 2 b a) ∙ ap (λ k. 2 ^ k) all in
    let parts : e * 2 ^ a ≡ e / 2 ^ b * 2 ^ 64 + e % 2 ^ b * 2 ^ a =
    ap (λ x. x * 2 ^ a) (sym (shr_split e b)) ∙ spread (e / 2 ^ b) (2 ^ b) (e % 2 ^ b) (2 ^ a) ∙ ap (λ x. e / 2 ^ b * x + e % 2 ^ b * 2 ^ a) whole in
    let small : e % 2 ^ b * 2 ^ a < 2 ^ 64 = subst (λ k. e % 2 ^ b * 2 ^ a < 2 ^ k) all (shl_below (e % 2 ^ b) b a (mod-lt e (pow_pos b))) in
    ap (λ x. x % 2 ^ 64) parts ∙ mod-mul-add (e / 2 ^ b) (2 ^ 64) (e % 2 ^ b * 2 ^ a) small
  where
    spread : (x p y q : ℕ) → (x * p + y) * q ≡ x * (p * q) + y * q
    spread x p y q = omega arith

low_masked : (e b : ℕ) → b ≤ 64 → e * 2 ^ (64 - b) % 2 ^ 64 / 2 ^ (64 - b) ≡ e % 2 ^ b
low_masked e b few = ap (λ x. x / 2 ^ (64 - b)) (low_shifted e b few) ∙ shl-shr (e % 2 ^ b) (64 - b)

-- the bits that are left of 64 after the low ones; of 64 there is none
rest_shifted : (e b : ℕ) → b ≤ 64 → e / 2 ^ (b % 64) % 2 ^ ((64 - b) % 8) ≡ e / 2 ^ b % 2 ^ ((64 - b) % 8)
rest_shifted e b few = ⊎_elim
    (λ (h : b < 64).
    let same : b % 64 ≡ b = omega arith in
    ap (λ k. e / 2 ^ k % 2 ^ ((64 - b) % 8)) same)
    (λ (h : 64 ≤ b).
    let none : (64 - b) % 8 ≡ 0 = omega arith in
    rw none (omega arith))
    (cases_lt b 64)

-- the number of a window's bits and of the low bits of 64, and the bits that are left
pub across_low_is : (w v n e : ℕ) (s : List Bool) → bits_of w v ≡ s → v < 2 ^ w → w < 8 → w < n → n ≤ 64
    → (e * 2 ^ (64 - (n - w)) % 2 ^ 64 / 2 ^ (64 - (n - w)) * 2 ^ w % 2 ^ 64 + v < 2 ^ n)
    × (bits_of (8 * groups (n - length s)) e ++ s
    ≡ bits_of ((64 - (n - w)) % 8) (e / 2 ^ ((n - w) % 64) % (1 * 2 ^ ((64 - (n - w)) % 8) % 2 ^ 64))
    ++ bits_of n (e * 2 ^ (64 - (n - w)) % 2 ^ 64 / 2 ^ (64 - (n - w)) * 2 ^ w % 2 ^ 64 + v))
across_low_is w v n e s view small short more few =
    let b : ℕ = n - w in
    let r : ℕ = (64 - b) % 8 in
    let below : e % 2 ^ b < 2 ^ b = mod-lt e (pow_pos b) in
    let low : e * 2 ^ (64 - b) % 2 ^ 64 / 2 ^ (64 - b) * 2 ^ w % 2 ^ 64 ≡ e % 2 ^ b * 2 ^ w =
    ap (λ x. x * 2 ^ w % 2 ^ 64) (low_masked e b (omega arith)) ∙ shl_whole (e % 2 ^ b) b w 64 below (omega arith) in
    let rest : e / 2 ^ (b % 64) % (1 * 2 ^ r % 2 ^ 64) ≡ e / 2 ^ b % 2 ^ r = ap (λ x. e / 2 ^ (b % 64) % x) (one_shl r 64 (omega arith)) ∙ rest_shifted e b (omega arith) in
    let long : length s ≡ w = sym (ap length view) ∙ length-bits_of w v in
    let bits : 8 * groups (n - length s) ≡ r + b = ap (λ k. 8 * groups (n - k)) long ∙ omega arith in
    let all : b + w ≡ n = omega arith in
    let sum : e % 2 ^ b * 2 ^ w + v < 2 ^ n = subst (λ k. e % 2 ^ b * 2 ^ w + v < 2 ^ k) all (joined_below b w (e % 2 ^ b) v below small) in (
      rw low sum,
      rw (low, rest) (ap₂ (λ k x. bits_of k e ++ x) bits (sym view) ∙ low_cut w b r v e small
          ∙ ap (λ k. bits_of r (e / 2 ^ b % 2 ^ r) ++ bits_of k (e % 2 ^ b * 2 ^ w + v)) all),
    )

-- a number of at most 64 bits
pub below_64 : (n x : ℕ) → n ≤ 64 → x < 2 ^ n → x < 2 ^ 64
below_64 n x few h =
    let top : 2 ^ n ≤ 2 ^ 64 = pow-le-pow_right {n = 2} (omega arith) {i = n} {j = 64} few in
    omega (arith, h, top)

-- the first bytes as bits are such a word, as the code has it
pub word_whole : (o : Order) (bytes : List ℕ) (n : ℕ) → length bytes ≡ 8 → All IsByte bytes → n % 8 ≡ 0 → n ≤ 64
    → TakesWord o [] (take (groups n) bytes) n (from_le_bytes w64 bytes * 2 ^ (64 - n) % 2 ^ 64 / 2 ^ (64 - n)) []
word_whole o bytes n l h whole few =
    let k : ℕ = groups n in
    let front : List ℕ = take k bytes in
    let inside : k ≤ length bytes = omega arith in
    let all : 8 * k ≡ n = omega arith in
    let worth : word_of o (flow o front) ≡ little front =
    ap (λ s. word_of o s) (sym (append-nil (flow o front))) ∙ ap little (byte_groups o front [] (All-take IsByte k bytes h) ∙ append-nil front) in record {
      bits = flow o front;
      long = length-flow o front ∙ ap (λ j. 8 * j) (length-take-le k bytes inside) ∙ all;
      cut = ap (λ s. s ++ flow o front) (facing_nil o) ∙ sym (append-nil (flow o front)) ∙ ap (λ s. flow o front ++ s) (sym (facing_nil o));
      worth = low_masked (from_le_bytes w64 bytes) n few ∙ ap₂ (λ x j. x % 2 ^ j) (low_eight bytes l) (sym all) ∙ little_front k bytes inside h ∙ sym worth;
    }
