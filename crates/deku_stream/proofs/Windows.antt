-- Windows as numbers of so many bits: what is taken from them, and bytes that go through them.
use Rattle.std.proofs.Common.{ℕ, ◌+◌, ◌*◌, ◌-◌, ◌/◌, ◌%◌, ◌^◌, ◌<◌, ◌≤◌, ◌≡◌, Bool, true, false, nat_eq, List, [], ◌∷◌, ◌++◌, reverse, length, drop, ap, ap₂, sym, ◌∙◌, subst, arith, append_assoc, mod-lt}
use Rattle.std.proofs.lemmas.Nat.{shr_below, mul-add-lt, pow_pos}
use Rattle.std.proofs.lemmas.List.{reverse-append, reverse-reverse, length-reverse, drop_at}
use Rattle.deku_stream.specs.declared.ctx.Order.{Order}
use Rattle.deku_stream.specs.declared.ctx.Order.TheVariants.{Msb0, Lsb0}
use Rattle.deku_stream.specs.Bits.{bin, bits_of, byte_bits, facing, group_number}
use Rattle.deku_stream.specs.Moving.{GivesGroup}
use Rattle.deku_stream.proofs.Binary.{length-bits_of, bin-bits_of}
use Rattle.deku_stream.proofs.Packed.{bits_of-split, bits_of-low, bin-whole, bits_of-join, joined_below}

-- ---- what is taken
-- the high bits of a number
pub high_group : (c m v : ℕ) → v < 2 ^ (c + m) → GivesGroup Msb0 c (bits_of (c + m) v) (v / 2 ^ m) (bits_of m (v % 2 ^ m))
high_group c m v h = record {
  group = bits_of c (v / 2 ^ m);
  long = length-bits_of c (v / 2 ^ m);
  cut = bits_of-split c m v ∙ ap (λ s. bits_of c (v / 2 ^ m) ++ s) (sym (bits_of-low m v));
  worth = sym (bin-whole c (v / 2 ^ m) (shr_below v c m h));
}

-- the low bits of a number
pub low_group : (c m v : ℕ) → GivesGroup Lsb0 c (bits_of (m + c) v) (v % 2 ^ c) (bits_of m (v / 2 ^ c))
low_group c m v = record {
  group = reverse (bits_of c v);
  long = length-reverse (bits_of c v) ∙ length-bits_of c v;
  cut = ap reverse (bits_of-split m c v) ∙ reverse-append (bits_of m (v / 2 ^ c)) (bits_of c v);
  worth = sym (ap bin (reverse-reverse (bits_of c v)) ∙ bin-bits_of c v);
}

-- one bit, and whether its number is one
pub one_bit : {o : Order} {w : List Bool} {number : ℕ} {rest : List Bool} {one : Bool} → GivesGroup o 1 w number rest → one ≡ nat_eq number 1 → facing o w ≡ one ∷ facing o rest
one_bit {o} {w} {number} {rest} {one} g e = go o g.group g.long (g.cut) (g.worth)
  where
    go : (o : Order) (s : List Bool) → length s ≡ 1 → facing o w ≡ s ++ facing o rest → number ≡ group_number o s → facing o w ≡ one ∷ facing o rest
    go o [] l c n = absurd (omega arith)
    go o (a ∷ b ∷ s) l c n = absurd (omega arith)
    go Msb0 (true ∷ []) l c n = c ∙ ap (λ x. x ∷ facing Msb0 rest) (sym (e ∙ ap (λ k. nat_eq k 1) n))
    go Msb0 (false ∷ []) l c n = c ∙ ap (λ x. x ∷ facing Msb0 rest) (sym (e ∙ ap (λ k. nat_eq k 1) n))
    go Lsb0 (true ∷ []) l c n = c ∙ ap (λ x. x ∷ facing Lsb0 rest) (sym (e ∙ ap (λ k. nat_eq k 1) n))
    go Lsb0 (false ∷ []) l c n = c ∙ ap (λ x. x ∷ facing Lsb0 rest) (sym (e ∙ ap (λ k. nat_eq k 1) n))

-- ---- a byte that goes through a window
-- after the bits of a number
pub through_high : (n v b : ℕ) → b < 2 ^ 8 → bits_of n v ++ byte_bits b ≡ byte_bits ((v * 2 ^ 8 + b) / 2 ^ n) ++ bits_of n ((v * 2 ^ 8 + b) % 2 ^ n)
unfolding byte_bits
through_high n v b h =
    bits_of-join n 8 v b h ∙ ap (λ k. bits_of k (v * 2 ^ 8 + b)) (omega arith) ∙ bits_of-split 8 n (v * 2 ^ 8 + b)
    ∙ ap (λ s. bits_of 8 ((v * 2 ^ 8 + b) / 2 ^ n) ++ s) (sym (bits_of-low n (v * 2 ^ 8 + b)))

-- before the bits of a number
pub through_low : (n m v b : ℕ) → n + m ≡ 8 → v < 2 ^ n → byte_bits b ++ bits_of n v ≡ bits_of n (b / 2 ^ m) ++ byte_bits (b % 2 ^ m * 2 ^ n + v)
unfolding byte_bits
through_low n m v b e h =
    let whole : m + n ≡ 8 = omega arith in
    let high : List Bool = bits_of n (b / 2 ^ m) in
    let low : ℕ = b % 2 ^ m in
    let cut : bits_of 8 b ≡ high ++ bits_of m low = ap (λ k. bits_of k b) (sym e) ∙ bits_of-split n m b ∙ ap (λ s. high ++ s) (sym (bits_of-low m b)) in
    let side : bits_of m low ++ bits_of n v ≡ bits_of 8 (low * 2 ^ n + v) = bits_of-join m n low v h ∙ ap (λ k. bits_of k (low * 2 ^ n + v)) whole in
    ap (λ s. s ++ bits_of n v) cut ∙ append_assoc high (bits_of m low) (bits_of n v) ∙ ap (λ s. high ++ s) side

-- ---- as the code has them
-- high bits that are taken from a window
pub high_taken : (c n m v h l : ℕ) (w : List Bool) → bits_of n v ≡ w → c ≤ length w → m ≡ n - c → v < 2 ^ n → h ≡ v / 2 ^ m → l ≡ v % 2 ^ m → GivesGroup Msb0 c w h (bits_of m l)
high_taken c n m v h l w e p q small a b =
    let long : length w ≡ n = sym (ap length e) ∙ length-bits_of n v in
    let whole : n ≡ c + m = omega arith in
    let all : bits_of (c + m) v ≡ w = ap (λ k. bits_of k v) (sym whole) ∙ e in
    let g = high_group c m v (subst (λ k. v < 2 ^ k) whole small) in
    subst (λ s. GivesGroup Msb0 c s h (bits_of m l)) all
    (subst (λ x. GivesGroup Msb0 c (bits_of (c + m) v) h (bits_of m x)) (sym b)
    (subst (λ x. GivesGroup Msb0 c (bits_of (c + m) v) x (bits_of m (v % 2 ^ m))) (sym a) g))

-- low bits that are taken from a window
pub low_taken : (c n m v h l : ℕ) (w : List Bool) → bits_of n v ≡ w → c ≤ length w → m ≡ n - c → h ≡ v / 2 ^ c → l ≡ v % 2 ^ c → GivesGroup Lsb0 c w l (bits_of m h)
low_taken c n m v h l w e p q a b =
    let long : length w ≡ n = sym (ap length e) ∙ length-bits_of n v in
    let whole : n ≡ m + c = omega arith in
    let all : bits_of (m + c) v ≡ w = ap (λ k. bits_of k v) (sym whole) ∙ e in
    subst (λ s. GivesGroup Lsb0 c s l (bits_of m h)) all
    (subst (λ x. GivesGroup Lsb0 c (bits_of (m + c) v) l (bits_of m x)) (sym a)
    (subst (λ x. GivesGroup Lsb0 c (bits_of (m + c) v) x (bits_of m (v / 2 ^ c))) (sym b) (low_group c m v)))

-- a byte that goes through the high bits of a window
pub high_through : (n v b x h l : ℕ) (w : List Bool) → bits_of n v ≡ w → b < 2 ^ 8 → x ≡ v * 2 ^ 8 + b → h ≡ x / 2 ^ n → l ≡ x % 2 ^ n → w ++ byte_bits b ≡ byte_bits h ++ bits_of n l
high_through n v b x h l w e p d f g =
    ap (λ s. s ++ byte_bits b) (sym e) ∙ through_high n v b p
    ∙ ap₂ (λ y z. byte_bits y ++ bits_of n z) (sym (f ∙ ap (λ k. k / 2 ^ n) d)) (sym (g ∙ ap (λ k. k % 2 ^ n) d))

-- a byte that goes through the low bits of a window
pub low_through : (n v b h l x : ℕ) (w : List Bool) → bits_of n v ≡ w → n ≤ 8 → v < 2 ^ n → h ≡ b / 2 ^ (8 - n) → l ≡ b % 2 ^ (8 - n) → x ≡ l * 2 ^ n + v → byte_bits b ++ w ≡ bits_of n h ++ byte_bits x
low_through n v b h l x w e few p f g d =
    ap (λ s. byte_bits b ++ s) (sym e) ∙ through_low n (8 - n) v b (omega arith) p
    ∙ ap₂ (λ y z. bits_of n y ++ byte_bits z) (sym f) (sym (d ∙ ap (λ k. k * 2 ^ n + v) g))

-- the byte of eight bits
pub whole_byte : (n v : ℕ) (w : List Bool) → bits_of n v ≡ w → length w ≡ 8 → byte_bits v ≡ w
unfolding byte_bits
whole_byte n v w e l = ap (λ k. bits_of k v) (sym l ∙ sym (ap length e) ∙ length-bits_of n v) ∙ e

-- as many bits
pub as_many : (n v h : ℕ) (w : List Bool) → bits_of n v ≡ w → length (bits_of n h) ≡ length w
as_many n v h w e = length-bits_of n h ∙ sym (length-bits_of n v) ∙ ap length e

-- how many bits a window has
pub how_many : (n v : ℕ) (w : List Bool) → bits_of n v ≡ w → n ≡ length w
how_many n v w e = sym (length-bits_of n v) ∙ ap length e

-- the last bits of eight
pub last_of_eight : (n v : ℕ) (w : List Bool) → bits_of n v ≡ w → n ≤ 8 → drop (8 - length w) (byte_bits v) ≡ w
unfolding byte_bits
last_of_eight n v w e h =
    let m : ℕ = 8 - n in
    let k : 8 - length w ≡ m = omega (arith, how_many n v w e) in
    let whole : 8 ≡ m + n = omega arith in
    ap₂ (λ x y. drop x (bits_of y v)) k whole
    ∙ ap (drop m) (bits_of-split m n v)
    ∙ drop_at (bits_of m (v / 2 ^ n)) (bits_of n v) m (length-bits_of m (v / 2 ^ n)) ∙ e

-- ---- numbers that fit
-- what is left of a number without its low bits
pub low_left : (c n v h : ℕ) → c ≤ n → v < 2 ^ n → h ≡ v / 2 ^ c → h < 2 ^ (n - c)
low_left c n v h l small e =
    let whole : n ≡ (n - c) + c = omega arith in
    subst (λ x. x < 2 ^ (n - c)) (sym e) (shr_below v (n - c) c (subst (λ k. v < 2 ^ k) whole small))

-- the high bits of a byte
pub high_below : (m n b h : ℕ) → m + n ≡ 8 → b < 2 ^ 8 → h ≡ b / 2 ^ n → h < 2 ^ m
high_below m n b h whole p e = subst (λ x. x < 2 ^ m) (sym e) (shr_below b m n (subst (λ k. b < 2 ^ k) (sym whole) p))

-- its low bits
pub low_below : (n b l : ℕ) → l ≡ b % 2 ^ n → l < 2 ^ n
low_below n b l e = subst (λ x. x < 2 ^ n) (sym e) (mod-lt b (pow_pos n))

-- two parts of a byte, so many bits and the others
pub whole_below : (m n x y : ℕ) → m + n ≡ 8 → x < 2 ^ m → y < 2 ^ n → x * 2 ^ n + y < 2 ^ 8
whole_below m n x y e p q = subst (λ k. x * 2 ^ n + y < 2 ^ k) e (joined_below m n x y p q)

-- a number with eight bits before its own
pub with_low : (a b k : ℕ) → a < 2 ^ 8 → b < 2 ^ k → k ≤ 8 → a * 2 ^ k + b < 2 ^ 8 * 2 ^ k
with_low a b k h l m = omega (arith, mul-add-lt a (2 ^ k) b (2 ^ 8) h l)
