-- A word and the bits in front of it as one number of at most 64 bits, and the bytes of that number.
use Rattle.std.proofs.Common.{◌≡◌, ℕ, zero, suc, ◌+◌, ◌*◌, ◌-◌, ◌/◌, ◌%◌, ◌^◌, ◌<◌, ◌≤◌, Bool, List, [], ◌∷◌, ◌++◌, reverse, length, take, drop, All, arith, refl, sym, ap, ap₂, ◌∙◌, append_assoc, mod-lt, take-append-drop, subst}
use Rattle.std.proofs.Math.Pow.{pow_mono}
use Rattle.std.proofs.Math.Nat.{pow-suc}
use Rattle.std.proofs.lemmas.Nat.{shr-shr, shr_below, shl_whole, pow-add, pow_pos, be_bytes_8}
use Rattle.std.proofs.lemmas.List.{take_at, reverse-append, length-take-le}
use Rattle.std.proofs.lemmas.List.Elements.{All-nil, All-cons, All-head, All-tail}
use Rattle.std.specs.Int.{w64, w128, to_le_bytes, to_be_bytes, swap_bytes, byte_at, bytes_low_first, bytes_high_first}
use Rattle.deku_stream.specs.declared.ctx.Order.{Order}
use Rattle.deku_stream.specs.declared.ctx.Order.TheVariants.{Msb0, Lsb0}
use Rattle.deku_stream.specs.Bits.{bits_of, byte_bits, facing}
use Rattle.deku_stream.specs.Streams.{flow}
use Rattle.deku_stream.specs.Writers.{remainder}
use Rattle.deku_writer.specs.Pushing.{low_bytes, word_bits, Fills}
use Rattle.deku_stream.proofs.Binary.{length-bits_of, length-facing}
use Rattle.deku_stream.proofs.Bytes.{IsByte}
use Rattle.deku_stream.proofs.Cuts.{emitted, emitted-full, emitted-short, remainder-full, remainder-short, length-byte_bits, byte-of, length-flow, flow-append}
use Rattle.deku_stream.proofs.Packed.{bits_of-split, bits_of-low, bits_of-join, joined_below}
use Rattle.deku_device.proofs.Laying.{each_byte}
use Rattle.deku_writer.proofs.WordsWritten.{length-low_bytes, last_below}

-- ---- the bytes of a number
eights : (k : ℕ) → 2 ^ (8 * k) ≡ 256 ^ k
eights zero = refl
eights (suc k) =
    let e : 8 * suc k ≡ 8 * k + 8 = omega arith in
    ap (λ i. 2 ^ i) e ∙ pow-add 2 (8 * k) 8 ∙ ap (λ x. x * 256) (eights k) ∙ sym (pow-suc 256 k)

byte_is : (i n : ℕ) → byte_at i n ≡ n / 2 ^ (8 * i) % 256
byte_is zero n = omega arith
byte_is (suc i) n = ap (λ k. n / k % 256) (sym (eights (suc i)))

-- from one of its bytes on
low_from : (i k n : ℕ) → bytes_low_first i k n ≡ low_bytes k (n / 2 ^ (8 * i))
low_from i zero n = refl
low_from i (suc k) n =
    let e : 8 * i + 8 ≡ 8 * suc i = omega arith in
    ap₂ (λ x y. x ∷ y) (byte_is i n) (low_from (suc i) k n ∙ ap (low_bytes k) (ap (λ m. n / 2 ^ m) (sym e) ∙ sym (shr-shr n (8 * i) 8)))

pub low_first : (n : ℕ) → to_le_bytes w64 n ≡ low_bytes 8 n
low_first n = let e : n / 2 ^ (8 * 0) ≡ n = omega arith in low_from 0 8 n ∙ ap (low_bytes 8) e

pub long_first : (n : ℕ) → to_le_bytes w128 n ≡ low_bytes 16 n
long_first n = let e : n / 2 ^ (8 * 0) ≡ n = omega arith in low_from 0 16 n ∙ ap (low_bytes 16) e

small_low : (k n : ℕ) → All IsByte (low_bytes k n)
small_low zero n = All-nil IsByte
small_low (suc k) n = All-cons IsByte (n % 256) (low_bytes k (n / 256)) (mod-lt n (omega arith)) (small_low k (n / 256))

pub small_le : (n : ℕ) → All IsByte (to_le_bytes w64 n)
small_le n = subst (All IsByte) (sym (low_first n)) (small_low 8 n)

-- the lowest of them, and the others
pub low_bytes-split : (m k w : ℕ) → low_bytes (m + k) w ≡ low_bytes m w ++ low_bytes k (w / 2 ^ (8 * m))
low_bytes-split zero k w =
    let e : w / 2 ^ (8 * 0) ≡ w = omega arith in
    let n : 0 + k ≡ k = omega arith in
    ap₂ (λ i v. low_bytes i v) n (sym e)
low_bytes-split (suc m) k w =
    let n : suc m + k ≡ suc (m + k) = omega arith in
    let p : 8 + 8 * m ≡ 8 * suc m = omega arith in
    ap (λ i. low_bytes i w) n ∙ ap (λ x. w % 256 ∷ x) (low_bytes-split m k (w / 256) ∙ ap (λ v. low_bytes m (w / 256) ++ low_bytes k v) (shr-shr w 8 (8 * m) ∙ ap (λ i. w / 2 ^ i) p))

pub first_low : (k q w : ℕ) → q ≤ k → take q (low_bytes k w) ≡ low_bytes q w
first_low k q w l =
    let e : k ≡ q + (k - q) = omega arith in
    ap (take q) (ap (λ i. low_bytes i w) e ∙ low_bytes-split q (k - q) w) ∙ take_at (low_bytes q w) (low_bytes (k - q) (w / 2 ^ (8 * q))) q (length-low_bytes q w)

-- ---- their bits
low_flow : (k v : ℕ) → flow Lsb0 (low_bytes k v) ≡ reverse (bits_of (8 * k) v)
unfolding bits_of byte_bits
low_flow zero v = refl
low_flow (suc k) v =
    let e : 8 * suc k ≡ 8 * k + 8 = omega arith in
    ap₂ (λ x y. reverse x ++ y) (bits_of-low 8 v) (low_flow k (v / 256))
    ∙ sym (ap (λ i. reverse (bits_of i v)) e ∙ ap reverse (bits_of-split (8 * k) 8 v) ∙ reverse-append (bits_of (8 * k) (v / 2 ^ 8)) (bits_of 8 v))

high_flow : (k v : ℕ) → flow Msb0 (bytes_high_first k v) ≡ bits_of (8 * k) v
unfolding bits_of byte_bits
high_flow zero v = refl
high_flow (suc k) v =
    let e : 8 * suc k ≡ 8 + 8 * k = omega arith in
    ap₂ (λ x y. x ++ y) (ap (bits_of 8) (byte_is k v) ∙ bits_of-low 8 (v / 2 ^ (8 * k))) (high_flow k v)
    ∙ sym (ap (λ i. bits_of i v) e ∙ bits_of-split 8 (8 * k) v)

-- ---- the number of a word
-- `Lsb0`: the word itself
pub low_word : (n w : ℕ) → word_bits Lsb0 n w ≡ facing Lsb0 (bits_of n w)
unfolding word_bits
low_word n w =
    let q : ℕ = n / 8 in
    let e : n % 8 + 8 * (n / 8) ≡ n = omega arith in
    ap (λ x. x ++ reverse (bits_of (n % 8) (w / 2 ^ (8 * q)))) (low_flow q w)
    ∙ sym (reverse-append (bits_of (n % 8) (w / 2 ^ (8 * q))) (bits_of (8 * q) w))
    ∙ ap reverse (sym (bits_of-split (n % 8) (8 * q) w) ∙ ap (λ i. bits_of i w) e)

-- `Msb0`: eight bytes turned
turned_eight : (w : ℕ) → bits_of 64 (swap_bytes w64 w) ≡ flow Msb0 (low_bytes 8 w)
turned_eight w =
    let back : to_be_bytes w64 (swap_bytes w64 w) ≡ to_le_bytes w64 w = be_bytes_8 (to_le_bytes w64 w) (swap_bytes w64 w) refl (each_byte (to_le_bytes w64 w) (small_le w)) refl in
    sym (high_flow 8 (swap_bytes w64 w)) ∙ ap (flow Msb0) (back ∙ low_first w)

-- and fewer, shifted down
turned : (q w : ℕ) → q ≤ 8 → bits_of (8 * q) (swap_bytes w64 w / 2 ^ (64 - 8 * q)) ≡ flow Msb0 (low_bytes q w)
turned q w l =
    let x : ℕ = swap_bytes w64 w in
    let k : ℕ = 64 - 8 * q in
    let all : 8 * q + (64 - 8 * q) ≡ 64 = omega arith in
    let e : 8 ≡ q + (8 - q) = omega arith in
    let rest : List Bool = flow Msb0 (low_bytes (8 - q) (w / 2 ^ (8 * q))) in
    let whole : bits_of (8 * q) (x / 2 ^ k) ++ bits_of k x ≡ flow Msb0 (low_bytes q w) ++ rest =
    sym (bits_of-split (8 * q) k x) ∙ ap (λ i. bits_of i x) all ∙ turned_eight w
    ∙ ap (flow Msb0) (ap (λ i. low_bytes i w) e ∙ low_bytes-split q (8 - q) w) ∙ flow-append Msb0 (low_bytes q w) (low_bytes (8 - q) (w / 2 ^ (8 * q))) in
    sym (take_at (bits_of (8 * q) (x / 2 ^ k)) (bits_of k x) (8 * q) (length-bits_of (8 * q) (x / 2 ^ k)))
    ∙ ap (take (8 * q)) whole
    ∙ take_at (flow Msb0 (low_bytes q w)) rest (8 * q) (length-flow Msb0 (low_bytes q w) ∙ ap (λ i. 8 * i) (length-low_bytes q w))

module _ (n w : ℕ) (most : n ≤ 64) (inside : w < 2 ^ n) where
  pub high_word : bits_of n (swap_bytes w64 w / 2 ^ (64 - 8 * (n / 8)) * 2 ^ (n % 8) + w / 2 ^ (8 * (n / 8))) ≡ word_bits Msb0 n w
  unfolding word_bits
  high_word =
      let e : n ≡ 8 * (n / 8) + n % 8 = omega arith in
      let front : ℕ = swap_bytes w64 w / 2 ^ (64 - 8 * (n / 8)) in
      let last : ℕ = w / 2 ^ (8 * (n / 8)) in
      ap (λ i. bits_of i (front * 2 ^ (n % 8) + last)) e ∙ sym (bits_of-join (8 * (n / 8)) (n % 8) front last (last_below n w inside))
      ∙ ap (λ x. x ++ bits_of (n % 8) last) (turned (n / 8) w (omega arith))

  pub short_word : n < 8 → bits_of n w ≡ word_bits Msb0 n w
  unfolding word_bits
  short_word short =
      let q : n / 8 ≡ 0 = omega arith in
      let r : n % 8 ≡ n = omega arith in
      let v : w / 2 ^ (8 * 0) ≡ w = omega arith in
      rw (q, r, v) refl

-- ---- a number of n bits cut after its whole bytes
module _ (n v : ℕ) (some : 0 < n) (most : n ≤ 64) (inside : v < 2 ^ n) where
  pub cut_high : bits_of n v ≡ flow Msb0 (take (n / 8) (to_be_bytes w64 (v * 2 ^ (64 - n)))) ++ bits_of (n % 8) (v % 2 ^ (n % 8))
  cut_high =
      let q : ℕ = n / 8 in
      let r : ℕ = n % 8 in
      let x : ℕ = v * 2 ^ (64 - n) in
      let bs : List ℕ = to_be_bytes w64 (v * 2 ^ (64 - n)) in
      let e : n ≡ 8 * (n / 8) + n % 8 = omega arith in
      let all : n + (64 - n) ≡ 64 = omega arith in
      let z : v * 2 ^ (64 - n) + 0 ≡ v * 2 ^ (64 - n) = omega arith in
      let two : bits_of n v ≡ bits_of (8 * q) (v / 2 ^ r) ++ bits_of r v = ap (λ i. bits_of i v) e ∙ bits_of-split (8 * q) r v in
      let wide : bits_of n v ++ bits_of (64 - n) 0 ≡ flow Msb0 bs =
      bits_of-join n (64 - n) v 0 (pow_pos (64 - n)) ∙ ap₂ (λ i y. bits_of i y) all z ∙ sym (high_flow 8 x) in
      let parts : bits_of (8 * q) (v / 2 ^ r) ++ (bits_of r v ++ bits_of (64 - n) 0) ≡ flow Msb0 (take q bs) ++ flow Msb0 (drop q bs) =
      sym (append_assoc (bits_of (8 * q) (v / 2 ^ r)) (bits_of r v) (bits_of (64 - n) 0)) ∙ ap (λ s. s ++ bits_of (64 - n) 0) (sym two) ∙ wide
      ∙ ap (flow Msb0) (sym (take-append-drop q bs)) ∙ flow-append Msb0 (take q bs) (drop q bs) in
      let long : length (flow Msb0 (take q bs)) ≡ 8 * q = length-flow Msb0 (take q bs) ∙ omega (arith, length-take-le q bs (omega arith)) in
      let front : bits_of (8 * q) (v / 2 ^ r) ≡ flow Msb0 (take q bs) =
      sym (take_at (bits_of (8 * q) (v / 2 ^ r)) (bits_of r v ++ bits_of (64 - n) 0) (8 * q) (length-bits_of (8 * q) (v / 2 ^ r)))
      ∙ ap (take (8 * q)) parts ∙ take_at (flow Msb0 (take q bs)) (flow Msb0 (drop q bs)) (8 * q) long in
      two ∙ ap₂ (λ a b. a ++ b) front (sym (bits_of-low r v))

  pub cut_low : facing Lsb0 (bits_of n v) ≡ flow Lsb0 (take (n / 8) (to_le_bytes w64 v)) ++ facing Lsb0 (bits_of (n % 8) (v / 2 ^ (8 * (n / 8))))
  unfolding word_bits
  cut_low =
      sym (low_word n v)
      ∙ ap (λ x. flow Lsb0 x ++ facing Lsb0 (bits_of (n % 8) (v / 2 ^ (8 * (n / 8))))) (sym (ap (take (n / 8)) (low_first v) ∙ first_low 8 (n / 8) v (omega arith)))

-- ---- bytes that fill
emitted_bytes : (o : Order) (bs : List ℕ) (s : List Bool) → All IsByte bs → length s < 8 → emitted o (flow o bs ++ s) ≡ bs
emitted_bytes o [] s h l = emitted-short o s l
emitted_bytes o (b ∷ bs) s h l =
    let g : List Bool = facing o (byte_bits b) in
    let lg : length g ≡ 8 = length-facing o (byte_bits b) ∙ length-byte_bits b in
    ap (emitted o) (append_assoc g (flow o bs) s) ∙ emitted-full o g (flow o bs ++ s) lg
    ∙ ap₂ (λ x y. x ∷ y) (byte-of o b (All-head IsByte b bs h)) (emitted_bytes o bs s (All-tail IsByte b bs h) l)

rest_bytes : (o : Order) (bs : List ℕ) (s : List Bool) → length s < 8 → remainder (flow o bs ++ s) ≡ s
rest_bytes o [] s l = remainder-short s l
rest_bytes o (b ∷ bs) s l =
    let g : List Bool = facing o (byte_bits b) in
    let lg : length g ≡ 8 = length-facing o (byte_bits b) ∙ length-byte_bits b in
    ap (λ t. remainder t) (append_assoc g (flow o bs) s) ∙ remainder-full g (flow o bs ++ s) lg ∙ rest_bytes o bs s l

pub fills_bytes : (o : Order) (h hs xs : List Bool) (bs : List ℕ) → facing o h ++ xs ≡ flow o bs ++ facing o hs → All IsByte bs → length hs < 8 → Fills o h hs xs bs
fills_bytes o h hs xs bs e small l =
    let k : length (facing o hs) < 8 = rw length-facing l in
    record {
      bytes = sym (ap (emitted o) e ∙ emitted_bytes o bs (facing o hs) small k);
      rest = sym (ap (λ t. remainder t) e ∙ rest_bytes o bs (facing o hs) k);
    }

-- whole bytes of a word, where nothing is held
pub whole_word : (o : Order) (n w : ℕ) → n % 8 ≡ 0 → word_bits o n w ≡ flow o (low_bytes (n / 8) w) ++ facing o []
unfolding bits_of word_bits
whole_word o n w whole = ap (λ r. flow o (low_bytes (n / 8) w) ++ facing o (bits_of r (w / 2 ^ (8 * (n / 8))))) whole

pub fills_whole : (o : Order) (h : List Bool) (n w : ℕ) → length h ≡ 0 → n % 8 ≡ 0 → Fills o h h (word_bits o n w) (low_bytes (n / 8) w)
fills_whole Msb0 [] n w none whole = fills_bytes Msb0 [] [] (word_bits Msb0 n w) (low_bytes (n / 8) w) (whole_word Msb0 n w whole) (small_low (n / 8) w) (omega arith)
fills_whole Lsb0 [] n w none whole = fills_bytes Lsb0 [] [] (word_bits Lsb0 n w) (low_bytes (n / 8) w) (whole_word Lsb0 n w whole) (small_low (n / 8) w) (omega arith)
fills_whole o (x ∷ h) n w none whole = absurd (omega arith)

-- ---- as the code shifts
-- a word's number
module _ (n w x : ℕ) (most : n ≤ 64) (inside : w < 2 ^ n) (wide : x < 2 ^ 64) where
  front_below : x / 2 ^ (64 - 8 * (n / 8)) < 2 ^ (8 * (n / 8))
  front_below =
      let e : 8 * (n / 8) + (64 - 8 * (n / 8)) ≡ 64 = omega arith in
      shr_below x (8 * (n / 8)) (64 - 8 * (n / 8)) (rw e wide)

  pub front_shifted : x / 2 ^ (64 - 8 * (n / 8)) * 2 ^ (n % 8) % 2 ^ 64 ≡ x / 2 ^ (64 - 8 * (n / 8)) * 2 ^ (n % 8)
  front_shifted = shl_whole (x / 2 ^ (64 - 8 * (n / 8))) (8 * (n / 8)) (n % 8) 64 front_below (omega arith)

  pub high_below : x / 2 ^ (64 - 8 * (n / 8)) * 2 ^ (n % 8) + w / 2 ^ (8 * (n / 8)) < 2 ^ n
  high_below =
      let e : 8 * (n / 8) + n % 8 ≡ n = omega arith in
      subst (λ k. x / 2 ^ (64 - 8 * (n / 8)) * 2 ^ (n % 8) + w / 2 ^ (8 * (n / 8)) < 2 ^ k) e
      (joined_below (8 * (n / 8)) (n % 8) (x / 2 ^ (64 - 8 * (n / 8))) (w / 2 ^ (8 * (n / 8))) front_below (last_below n w inside))

  -- where there are whole bytes alone
  pub high_even : n % 8 ≡ 0 → x / 2 ^ (64 - 8 * (n / 8)) ≡ x / 2 ^ (64 - 8 * (n / 8)) * 2 ^ (n % 8) + w / 2 ^ (8 * (n / 8))
  high_even e =
      let last : w / 2 ^ (8 * (n / 8)) < 2 ^ 0 = subst (λ k. w / 2 ^ (8 * (n / 8)) < 2 ^ k) e (last_below n w inside) in
      rw e (omega (arith, last))

-- below two to a power that fits
pub fits_word : (v n : ℕ) → v < 2 ^ n → n ≤ 64 → v < 2 ^ 64
fits_word v n h l = let p : 2 ^ n ≤ 2 ^ 64 = pow_mono {i = n} {j = 64} l in omega (arith, h, p)

-- no bits in front
pub none_in_front : (a n first number : ℕ) (s : List Bool) → a ≡ 0 → bits_of n number ≡ s → bits_of (a + n) number ≡ bits_of a first ++ s
unfolding bits_of
none_in_front a n first number s e m = let z : 0 + n ≡ n = omega arith in rw (e, z) m
