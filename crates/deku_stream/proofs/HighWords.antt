-- The word of a number's bits, the highest of them first, by a turn of its whole bytes.
use Rattle.std.proofs.Common.{ℕ, zero, suc, ◌+◌, ◌*◌, ◌-◌, ◌/◌, ◌%◌, ◌^◌, ◌<◌, ◌≤◌, ◌≡◌, Bool, List, ◌++◌, map, ap, ap₂, sym, ◌∙◌, subst, arith, mod-lt, ⊎_elim}
use Rattle.std.proofs.lemmas.Nat.{shr_below, shl_whole, one_shl, pow_pos}
use Rattle.std.proofs.lemmas.Bool.{cases_lt}
use Rattle.std.proofs.Math.Nat.{pow-le-pow_right}
use Rattle.std.specs.Int.{w64, bytes_high_first, swap_bytes}
use Rattle.deku_stream.specs.declared.ctx.Order.TheVariants.{Msb0}
use Rattle.deku_stream.specs.Bits.{bits_of, chunks, group_number, little, word_of}
use Rattle.deku_stream.specs.Streams.{flow}
use Rattle.deku_stream.proofs.Binary.{length-bits_of, bin-bits_of}
use Rattle.deku_stream.proofs.Packed.{bits_of-split, bin-whole, joined_below}
use Rattle.deku_stream.proofs.Words.{byte_groups, word_of-short}
use Rattle.deku_stream.proofs.EightBytes.{little-append, flow_high, high_first_bytes, length-high_first}

-- turned and shifted down, a number of so many bytes has them the other way round
turned_high : (q m : ℕ) → q ≤ 8 → m < 2 ^ (8 * q) → swap_bytes w64 m / 2 ^ (64 - 8 * q) ≡ little (bytes_high_first q m)
turned_high zero m l h = omega (arith, h)
turned_high (suc zero) m l h = omega (arith, h)
turned_high (suc (suc zero)) m l h = omega (arith, h)
turned_high (suc (suc (suc zero))) m l h = omega (arith, h)
turned_high (suc (suc (suc (suc zero)))) m l h = omega (arith, h)
turned_high (suc (suc (suc (suc (suc zero))))) m l h = omega (arith, h)
turned_high (suc (suc (suc (suc (suc (suc zero)))))) m l h = omega (arith, h)
turned_high (suc (suc (suc (suc (suc (suc (suc zero))))))) m l h = omega (arith, h)
turned_high (suc (suc (suc (suc (suc (suc (suc (suc zero)))))))) m l h = omega (arith, h)
turned_high (suc (suc (suc (suc (suc (suc (suc (suc (suc q))))))))) m l h = absurd (omega (arith, l))

-- the word of a number's bits: its whole bytes turned, and the bits after them
word_parts : (q r n : ℕ) → q ≤ 8 → r < 8 → n < 2 ^ (8 * q + r) → swap_bytes w64 (n / 2 ^ r) / 2 ^ (64 - 8 * q) + n % 2 ^ r * 2 ^ (8 * q) ≡ word_of Msb0 (bits_of (8 * q + r) n)
word_parts q r n few short h =
    let m : ℕ = n / 2 ^ r in
    let y : List Bool = bits_of r n in
    let bytes : List ℕ = bytes_high_first q m in
    let cut : bits_of (8 * q + r) n ≡ flow Msb0 bytes ++ y = bits_of-split (8 * q) r n ∙ ap (λ z. z ++ y) (sym (flow_high q m)) in
    let last : word_of Msb0 y ≡ n % 2 ^ r = word_of-short Msb0 y (omega (arith, length-bits_of r n)) ∙ bin-bits_of r n in
    let below : m < 2 ^ (8 * q) = shr_below n (8 * q) r h in
    sym (ap (word_of Msb0) cut ∙ ap little (byte_groups Msb0 bytes y (high_first_bytes q m)) ∙ little-append bytes (map (group_number Msb0) (chunks y))
    ∙ ap₂ (λ a b. a + b) (sym (turned_high q m few below)) (ap₂ (λ k z. 2 ^ (8 * k) * z) (length-high_first q m) last ∙ turn (2 ^ (8 * q)) (n % 2 ^ r)))
  where
    turn : (a b : ℕ) → a * b ≡ b * a
    turn a b = omega arith

-- as the code has it: of 64 bits no bit is shifted after the whole bytes
last_shifted : (q r n : ℕ) → 8 * q + r ≤ 64 → n % 2 ^ r * 2 ^ (8 * q % 64) % 2 ^ 64 ≡ n % 2 ^ r * 2 ^ (8 * q)
last_shifted q r n few = ⊎_elim
    (λ (h : q < 8).
    let same : 8 * q % 64 ≡ 8 * q = omega arith in
    rw same (shl_whole (n % 2 ^ r) r (8 * q) 64 (mod-lt n (pow_pos r)) (omega arith)))
    (λ (h : 8 ≤ q).
    let none : r ≡ 0 = omega arith in
    let zero_is : n % 2 ^ r ≡ 0 = ap (λ k. n % 2 ^ k) none ∙ omega arith in
    rw zero_is (omega arith))
    (cases_lt q 8)

pub word_high : (count n t : ℕ) → count ≤ 64 → n < 2 ^ count → t < 2 ^ 64 → t ≡ swap_bytes w64 (n / 2 ^ (count % 8))
    → (t / 2 ^ (64 - (count - count % 8)) + n % (1 * 2 ^ (count % 8) % 2 ^ 64) * 2 ^ ((count - count % 8) % 64) % 2 ^ 64 ≡ word_of Msb0 (bits_of count n))
    × (t / 2 ^ (64 - (count - count % 8)) + n % (1 * 2 ^ (count % 8) % 2 ^ 64) * 2 ^ ((count - count % 8) % 64) % 2 ^ 64 < 2 ^ 64)
word_high count n t few h fits e =
    let q : ℕ = count / 8 in
    let r : ℕ = count % 8 in
    let whole : count - r ≡ 8 * q = omega arith in
    let all : 8 * q + r ≡ count = omega arith in
    let one : 1 * 2 ^ r % 2 ^ 64 ≡ 2 ^ r = one_shl r 64 (omega arith) in
    let last : n % (1 * 2 ^ r % 2 ^ 64) * 2 ^ ((count - r) % 64) % 2 ^ 64 ≡ n % 2 ^ r * 2 ^ (8 * q) =
    ap₂ (λ x y. n % x * 2 ^ (y % 64) % 2 ^ 64) one whole ∙ last_shifted q r n (omega arith) in
    let sum : t / 2 ^ (64 - (count - r)) + n % (1 * 2 ^ r % 2 ^ 64) * 2 ^ ((count - r) % 64) % 2 ^ 64 ≡ t / 2 ^ (64 - 8 * q) + n % 2 ^ r * 2 ^ (8 * q) =
    ap₂ (λ x y. t / 2 ^ (64 - x) + y) whole last in
    let small : n < 2 ^ (8 * q + r) = subst (λ k. n < 2 ^ k) (sym all) h in
    let worth : t / 2 ^ (64 - 8 * q) + n % 2 ^ r * 2 ^ (8 * q) ≡ word_of Msb0 (bits_of count n) =
    ap (λ x. x / 2 ^ (64 - 8 * q) + n % 2 ^ r * 2 ^ (8 * q)) e ∙ word_parts q r n (omega arith) (omega arith) small ∙ ap (λ k. word_of Msb0 (bits_of k n)) all in
    let places : 64 ≡ 8 * q + (64 - 8 * q) = omega arith in
    let turned : t / 2 ^ (64 - 8 * q) < 2 ^ (8 * q) = shr_below t (8 * q) (64 - 8 * q) (subst (λ k. t < 2 ^ k) places fits) in
    let below : n % 2 ^ r * 2 ^ (8 * q) + t / 2 ^ (64 - 8 * q) < 2 ^ (r + 8 * q) = joined_below r (8 * q) (n % 2 ^ r) (t / 2 ^ (64 - 8 * q)) (mod-lt n (pow_pos r)) turned in
    let top : 2 ^ (r + 8 * q) ≤ 2 ^ 64 = pow-le-pow_right {n = 2} (omega arith) {i = r + 8 * q} {j = 64} (omega arith) in
    (sum ∙ worth, rw sum (omega (arith, below, top)))

-- of fewer than eight bits it is their number
pub word_high_short : (count n : ℕ) → count < 8 → n < 2 ^ count → n ≡ word_of Msb0 (bits_of count n)
word_high_short count n short h = sym (word_of-short Msb0 (bits_of count n) (omega (arith, length-bits_of count n)) ∙ bin-whole count n h)
