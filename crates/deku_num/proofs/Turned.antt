-- Words that are turned: the number of a field from the word of its bits, and back.
use Rattle.std.proofs.Common.{◌≡◌, ℕ, zero, suc, ◌+◌, ◌*◌, ◌-◌, ◌/◌, ◌%◌, ◌^◌, ◌<◌, ◌≤◌, Bool, List, [], ◌∷◌, ◌++◌, reverse, length, map, take, drop, replicate, All, arith, refl, sym, ap, ap₂, ◌∙◌, subst, length-append, take-append-drop, length-drop, length-take-le}
use Rattle.std.proofs.lemmas.Nat.{shr-shr, shl-shr, shr_below, shl_whole, mul-add-lt, pow-add, div-mul-add, mod-mul-add}
use native.Mathlib.Nat.{pow-le-pow_right}
use Rattle.std.proofs.Math.Nat.{pow-suc}
use Rattle.std.proofs.lemmas.List.{length-map, length-replicate, length-reverse, reverse-append, reverse-reverse}
use Rattle.std.proofs.lemmas.List.Elements.{All-head, All-tail, All-cons, All-nil, All-append, All-replicate}
use Rattle.std.specs.Int.{w128, from_be_bytes, swap_bytes, byte_at, bytes_low_first}
use Rattle.deku_bits.specs.declared.ctx.Order.{Order}
use Rattle.deku_bits.specs.declared.ctx.Order.TheVariants.{Msb0, Lsb0}
use Rattle.deku_bits.specs.Bits.{bin, chunks, group_number, groups, little, word_of}
use Rattle.deku_bits.proofs.Binary.{bin-append}
use Rattle.deku_bits.proofs.Bytes.{IsByte}
use Rattle.deku_bits.proofs.Groups.{chunks-full, chunks-short, by_groups, length-chunks}
use Rattle.deku_bits.proofs.Words.{little-filled}
use Rattle.deku_num.specs.declared.ctx.Endian.TheVariants.{Little, Big}
use Rattle.deku_num.specs.Numbers.{number, big}
use Rattle.deku_num.proofs.Chunked.{group_below, little_below, number_short}
use Rattle.deku_num.proofs.Ranges.{split_law}
use Rattle.deku_num.proofs.Values.{eights}

-- ---- bytes the other way round
byte_is : (i n : ℕ) → byte_at i n ≡ n / 256 ^ i % 256
byte_is zero n = omega arith
byte_is (suc i) n = refl

-- one byte further up
shift_more : (n i : ℕ) → n / 256 ^ suc i ≡ n / 256 ^ i / 256
shift_more n i =
    let a : 8 * suc i ≡ 8 * i + 8 = omega arith in
    ap (λ k. n / k) (sym (eights (suc i)) ∙ ap (λ k. 2 ^ k) a) ∙ sym (shr-shr n (8 * i) 8) ∙ ap (λ k. n / k / 256) (eights i)

-- the bytes of a number, lowest first
low_bytes : (bs : List ℕ) (i n : ℕ) → All IsByte bs → n / 256 ^ i ≡ little bs → bytes_low_first i (length bs) n ≡ bs
low_bytes [] i n h e = refl
low_bytes (b ∷ bs) i n h e =
    let small : b < 256 = All-head IsByte b bs h in
    ap₂ (λ x y. x ∷ y) (byte_is i n ∙ ap (λ k. k % 256) e ∙ omega arith)
    (low_bytes bs (suc i) n (All-tail IsByte b bs h) (shift_more n i ∙ ap (λ k. k / 256) e ∙ omega arith))

-- the number of sixteen bytes, the first the highest
big_sixteen : (bytes : List ℕ) → length bytes ≡ 16 → from_be_bytes w128 bytes ≡ big bytes
big_sixteen (a ∷ b ∷ c ∷ d ∷ e ∷ f ∷ g ∷ h ∷ i ∷ j ∷ k ∷ l ∷ m ∷ n ∷ o ∷ p ∷ []) q = omega arith
big_sixteen _ q = absurd (omega arith)

-- zeros after bytes
big_zeros : (m : ℕ) → big (replicate m 0) ≡ 0
big_zeros zero = refl
big_zeros (suc m) = omega (arith, big_zeros m)

big-filled : (bytes : List ℕ) (m : ℕ) → big (bytes ++ replicate m 0) ≡ big bytes * 256 ^ m
big-filled [] m = big_zeros m ∙ omega arith
big-filled (b ∷ bytes) m =
    rw (length-append bytes (replicate m 0), length-replicate {A = ℕ} m 0, pow-add 256 (length bytes) m, big-filled bytes m) (omega arith)

-- sixteen bytes turned
swapped : (bytes : List ℕ) → length bytes ≡ 16 → All IsByte bytes → swap_bytes w128 (little bytes) ≡ big bytes
swapped bytes l h =
    let one : little bytes / 256 ^ 0 ≡ little bytes = omega arith in
    ap (from_be_bytes w128) (ap (λ k. bytes_low_first 0 k (little bytes)) (sym l) ∙ low_bytes bytes 0 (little bytes) h one) ∙ big_sixteen bytes l

-- fewer bytes turned, and shifted down
pub turned_bytes : (bytes : List ℕ) (count n : ℕ) → length bytes ≡ count → count ≤ 16 → All IsByte bytes → n ≡ little bytes → swap_bytes w128 n / 2 ^ (128 - 8 * count) ≡ big bytes
turned_bytes bytes count n l few h e =
    let m : ℕ = 16 - count in
    let all : List ℕ = bytes ++ replicate m 0 in
    let size : length all ≡ 16 = omega (arith, length-append bytes (replicate m 0), length-replicate {A = ℕ} m 0, l) in
    let small : All IsByte all = All-append IsByte bytes (replicate m 0) h (All-replicate IsByte m 0 (omega arith)) in
    let places : 128 - 8 * count ≡ 8 * m = omega arith in
    ap₂ (λ x k. swap_bytes w128 x / 2 ^ k) (e ∙ sym (little-filled bytes m)) places
    ∙ ap (λ x. x / 2 ^ (8 * m)) (swapped all size small ∙ big-filled bytes m ∙ ap (λ k. big bytes * k) (sym (eights m)))
    ∙ shl-shr (big bytes) (8 * m)

-- ---- groups as bytes
pub group_bytes : (o : Order) (s : List Bool) → All IsByte (map (group_number o) (chunks s))
group_bytes o s = by_groups (λ s. All IsByte (map (group_number o) (chunks s))) (All-nil IsByte)
    (λ s p l. rw (chunks-short s p l) (All-cons IsByte (group_number o s) [] (group_below o s (omega arith)) (All-nil IsByte)))
    (λ g t l h. rw (chunks-full g t l) (All-cons IsByte (group_number o g) (map (group_number o) (chunks t)) (group_below o g (omega arith)) h))
    s

pub length-group_bytes : (o : Order) (s : List Bool) → length (map (group_number o) (chunks s)) ≡ groups (length s)
length-group_bytes o s = length-map (chunks s) (group_number o) ∙ length-chunks s

-- whole groups, high bits first
whole_big : (s : List Bool) → length s % 8 ≡ 0 → bin s ≡ big (map bin (chunks s))
whole_big s = by_groups (λ s. length s % 8 ≡ 0 → bin s ≡ big (map bin (chunks s))) (λ z. refl)
    (λ s p l z. absurd (omega arith))
    (λ g t l h z.
    let more : length t % 8 ≡ 0 = omega (arith, length-append g t) in
    let places : 2 ^ length t ≡ 256 ^ groups (length t) = ap (λ k. 2 ^ k) (omega arith) ∙ eights (groups (length t)) in
    bin-append g t ∙ ap₂ (λ x y. bin g * x + y) places (h more)
    ∙ sym (ap (λ x. big (map bin x)) (chunks-full g t l) ∙ ap (λ k. bin g * 256 ^ k + big (map bin (chunks t))) (length-group_bytes Msb0 t)))
    s

-- ---- numbers from words
pub word_below : (o : Order) (s : List Bool) → word_of o s < 2 ^ length s
unfolding number
word_below o s = little_below o s

-- a word is the number in little endian
pub word_is : (o : Order) (s : List Bool) → word_of o s ≡ number Little o s
unfolding number
word_is o s = refl

-- in big and `Lsb0` its bytes are turned
pub low_turned : (s : List Bool) (n count : ℕ) → length s ≤ 128 → count ≡ groups (length s) → n ≡ word_of Lsb0 s → swap_bytes w128 n / 2 ^ (128 - 8 * count) ≡ number Big Lsb0 s
unfolding number
low_turned s n count h e f =
    turned_bytes (map (group_number Lsb0) (chunks s)) count n (length-group_bytes Lsb0 s ∙ sym e) (omega arith) (group_bytes Lsb0 s) f

-- and so in big and `Msb0`, where there are whole groups alone
pub high_turned : (s : List Bool) (n count : ℕ) → length s ≤ 128 → length s ≡ 8 * count → n ≡ word_of Msb0 s → swap_bytes w128 n / 2 ^ (128 - 8 * count) ≡ number Big Msb0 s
unfolding number
high_turned s n count h e f =
    turned_bytes (map bin (chunks s)) count n (length-group_bytes Msb0 s ∙ omega arith) (omega arith) (group_bytes Msb0 s) f ∙ sym (whole_big s (omega arith))

-- whole groups, and a short one after them
pub both_turned : (s : List Bool) (n q r low high : ℕ) → length s ≤ 128 → length s ≡ 8 * q + r → 0 < r → r < 8 → n ≡ word_of Msb0 s → low ≡ n % 2 ^ (8 * q) → high ≡ n / 2 ^ (8 * q)
    → swap_bytes w128 low / 2 ^ (128 - 8 * q) * 2 ^ r + high ≡ number Big Msb0 s
both_turned s n q r low high h e p k f a b =
    let k8 : ℕ = 8 * q in
    let x : List Bool = take k8 s in
    let y : List Bool = drop k8 s in
    let whole : x ++ y ≡ s = take-append-drop k8 s in
    let lx : length x ≡ k8 = length-take-le k8 s (omega arith) in
    let ly : length y ≡ r = omega (arith, length-drop k8 s) in
    let parts = split_law Msb0 x y (omega arith) in
    let sum : n ≡ word_of Msb0 y * 2 ^ k8 + word_of Msb0 x =
    f ∙ word_is Msb0 s ∙ ap (number Little Msb0) (sym whole) ∙ parts.0 ∙ ap (λ z. number Little Msb0 x + number Little Msb0 y * 2 ^ z) lx ∙ swap (number Little Msb0 x) (number Little Msb0 y * 2 ^ k8)
    ∙ ap₂ (λ u v. v * 2 ^ k8 + u) (sym (word_is Msb0 x)) (sym (word_is Msb0 y)) in
    let small : word_of Msb0 x < 2 ^ k8 = subst (λ z. word_of Msb0 x < 2 ^ z) lx (word_below Msb0 x) in
    let low_is : low ≡ word_of Msb0 x = a ∙ ap (λ z. z % 2 ^ k8) sum ∙ mod-mul-add (word_of Msb0 y) (2 ^ k8) (word_of Msb0 x) small in
    let high_is : high ≡ number Big Msb0 y =
    b ∙ ap (λ z. z / 2 ^ k8) sum ∙ div-mul-add (word_of Msb0 y) (2 ^ k8) (word_of Msb0 x) small ∙ word_is Msb0 y
    ∙ number_short Little Msb0 y (omega arith) (omega arith) ∙ sym (number_short Big Msb0 y (omega arith) (omega arith)) in
    ap₂ (λ u v. u * 2 ^ r + v) (high_turned x low q (omega arith) lx low_is) high_is
    ∙ ap (λ z. number Big Msb0 x * 2 ^ z + number Big Msb0 y) (sym ly) ∙ sym (parts.1) ∙ ap (number Big Msb0) whole
  where
    swap : (u v : ℕ) → u + v ≡ v + u
    swap u v = omega arith

-- ---- the way back
-- a byte after others
little-more : (bytes : List ℕ) (b : ℕ) → little (bytes ++ b ∷ []) ≡ little bytes + b * 256 ^ length bytes
little-more [] b = omega arith
little-more (a ∷ bytes) b =
    let p : 256 ^ suc (length bytes) ≡ 256 ^ length bytes * 256 = pow-suc 256 (length bytes) in
    rw (little-more bytes b, p) (omega arith)

-- from the other end the first byte is the highest
little-reverse : (bytes : List ℕ) → little (reverse bytes) ≡ big bytes
little-reverse [] = refl
little-reverse (b ∷ bytes) =
    ap little (reverse-append (b ∷ []) bytes) ∙ little-more (reverse bytes) b
    ∙ ap₂ (λ x k. x + b * 256 ^ k) (little-reverse bytes) (length-reverse bytes) ∙ swap (big bytes) (b * 256 ^ length bytes)
  where
    swap : (u v : ℕ) → u + v ≡ v + u
    swap u v = omega arith

All-reverse : (bytes : List ℕ) → All IsByte bytes → All IsByte (reverse bytes)
All-reverse [] h = h
All-reverse (b ∷ bytes) h =
    subst (All IsByte) (sym (reverse-append (b ∷ []) bytes))
    (All-append IsByte (reverse bytes) (b ∷ []) (All-reverse bytes (All-tail IsByte b bytes h)) (All-cons IsByte b [] (All-head IsByte b bytes h) (All-nil IsByte)))

-- turned again, bytes are as they were
turned_back : (bytes : List ℕ) (count n : ℕ) → length bytes ≡ count → count ≤ 16 → All IsByte bytes → n ≡ big bytes → swap_bytes w128 n / 2 ^ (128 - 8 * count) ≡ little bytes
turned_back bytes count n l few h e =
    turned_bytes (reverse bytes) count n (length-reverse bytes ∙ l) few (All-reverse bytes h) (e ∙ sym (little-reverse bytes))
    ∙ sym (little-reverse (reverse bytes)) ∙ ap little (reverse-reverse bytes)

-- in big and `Lsb0` the bytes of a number are turned
pub low_back : (s : List Bool) (n count : ℕ) → length s ≤ 128 → count ≡ groups (length s) → n ≡ number Big Lsb0 s → swap_bytes w128 n / 2 ^ (128 - 8 * count) ≡ word_of Lsb0 s
unfolding number
low_back s n count h e f =
    turned_back (map (group_number Lsb0) (chunks s)) count n (length-group_bytes Lsb0 s ∙ sym e) (omega arith) (group_bytes Lsb0 s) f

-- and so in big and `Msb0`, where there are whole groups alone
pub high_back : (s : List Bool) (n count : ℕ) → length s ≤ 128 → length s ≡ 8 * count → n ≡ number Big Msb0 s → swap_bytes w128 n / 2 ^ (128 - 8 * count) ≡ word_of Msb0 s
unfolding number
high_back s n count h e f =
    turned_back (map bin (chunks s)) count n (length-group_bytes Msb0 s ∙ omega arith) (omega arith) (group_bytes Msb0 s) (f ∙ whole_big s (omega arith))

-- whole groups, and a short one after them
pub both_back : (s : List Bool) (n q r low high : ℕ) → length s ≤ 128 → length s ≡ 8 * q + r → 0 < r → r < 8 → n ≡ number Big Msb0 s → low ≡ n % 2 ^ r → high ≡ n / 2 ^ r
    → swap_bytes w128 high / 2 ^ (128 - 8 * q) + low * 2 ^ (8 * q) ≡ word_of Msb0 s
both_back s n q r low high h e p k f a b =
    let k8 : ℕ = 8 * q in
    let x : List Bool = take k8 s in
    let y : List Bool = drop k8 s in
    let whole : x ++ y ≡ s = take-append-drop k8 s in
    let lx : length x ≡ k8 = length-take-le k8 s (omega arith) in
    let ly : length y ≡ r = omega (arith, length-drop k8 s) in
    let parts = split_law Msb0 x y (omega arith) in
    let short : number Big Msb0 y ≡ word_of Msb0 y =
    number_short Big Msb0 y (omega arith) (omega arith) ∙ sym (number_short Little Msb0 y (omega arith) (omega arith)) ∙ sym (word_is Msb0 y) in
    let small : number Big Msb0 y < 2 ^ r = rw short (subst (λ z. word_of Msb0 y < 2 ^ z) ly (word_below Msb0 y)) in
    let sum : n ≡ number Big Msb0 x * 2 ^ r + number Big Msb0 y =
    f ∙ ap (number Big Msb0) (sym whole) ∙ parts.1 ∙ ap (λ z. number Big Msb0 x * 2 ^ z + number Big Msb0 y) ly in
    let low_is : low ≡ word_of Msb0 y = a ∙ ap (λ z. z % 2 ^ r) sum ∙ mod-mul-add (number Big Msb0 x) (2 ^ r) (number Big Msb0 y) small ∙ short in
    let high_is : high ≡ number Big Msb0 x = b ∙ ap (λ z. z / 2 ^ r) sum ∙ div-mul-add (number Big Msb0 x) (2 ^ r) (number Big Msb0 y) small in
    ap₂ (λ u v. u + v * 2 ^ k8) (high_back x high q (omega arith) lx high_is ∙ word_is Msb0 x) (low_is ∙ word_is Msb0 y)
    ∙ ap (λ z. number Little Msb0 x + number Little Msb0 y * 2 ^ z) (sym lx) ∙ sym (parts.0) ∙ ap (number Little Msb0) whole ∙ sym (word_is Msb0 s)

-- ---- as the code shifts
-- no bytes
pub turned_none : (n x k : ℕ) → x < 2 ^ 128 → x ≡ swap_bytes w128 n → k ≡ 0 → 0 ≡ swap_bytes w128 n / 2 ^ (128 - 8 * k)
turned_none n x k h e z =
    let p : 128 - 8 * k ≡ 128 = omega arith in
    let q : x / 2 ^ 128 ≡ 0 = omega arith in
    sym (ap₂ (λ u v. u / 2 ^ v) (sym e) p ∙ q)

-- a word of so many bytes
pub turned_fits : (w x k : ℕ) → x < 2 ^ w → 8 * k ≤ w → x / 2 ^ (w - 8 * k) < 2 ^ (8 * k)
turned_fits w x k h l =
    let all : 8 * k + (w - 8 * k) ≡ w = omega arith in
    shr_below x (8 * k) (w - 8 * k) (subst (λ z. x < 2 ^ z) (sym all) h)

-- whole bytes and the bits after them
pub both_fit : (w a q r n k : ℕ) → a < 2 ^ (8 * q) → n ≡ 8 * q + r → n ≤ w → k < 2 ^ n → (a * 2 ^ r % 2 ^ w ≡ a * 2 ^ r) × (a * 2 ^ r + k / 2 ^ (8 * q) < 2 ^ w)
both_fit w a q r n k h e l f =
    let turned : n ≡ r + 8 * q = omega arith in
    let low : k / 2 ^ (8 * q) < 2 ^ r = shr_below k r (8 * q) (subst (λ z. k < 2 ^ z) turned f) in
    let sum : a * 2 ^ r + k / 2 ^ (8 * q) < 2 ^ (8 * q) * 2 ^ r = omega (arith, mul-add-lt a (2 ^ r) (k / 2 ^ (8 * q)) (2 ^ (8 * q)) h low) in
    let whole : 2 ^ (8 * q) * 2 ^ r ≡ 2 ^ n = sym (pow-add 2 (8 * q) r) ∙ ap (λ z. 2 ^ z) (sym e) in
    let top : 2 ^ n ≤ 2 ^ w = pow-le-pow_right {n = 2} (omega arith) {i = n} {j = w} l in
    (shl_whole a (8 * q) r w h (omega arith), omega arith)

-- whole bytes and the bits after them, the other way
pub back_fits : (w a q r n k : ℕ) → a < 2 ^ (8 * q) → n ≡ 8 * q + r → n ≤ w → k < 2 ^ r → (k * 2 ^ (8 * q) % 2 ^ w ≡ k * 2 ^ (8 * q)) × (a + k * 2 ^ (8 * q) < 2 ^ w)
back_fits w a q r n k h e l f =
    let sum : k * 2 ^ (8 * q) + a < 2 ^ r * 2 ^ (8 * q) = omega (arith, mul-add-lt k (2 ^ (8 * q)) a (2 ^ r) f h) in
    let whole : 2 ^ r * 2 ^ (8 * q) ≡ 2 ^ n = sym (pow-add 2 r (8 * q)) ∙ ap (λ z. 2 ^ z) (omega arith) in
    let top : 2 ^ n ≤ 2 ^ w = pow-le-pow_right {n = 2} (omega arith) {i = n} {j = w} l in
    (shl_whole k r (8 * q) w f (omega arith), omega arith)
