-- Eight bytes as one number, the first of them the highest or the lowest, and as bits.
use Rattle.std.proofs.Common.{ℕ, zero, suc, ◌+◌, ◌*◌, ◌-◌, ◌/◌, ◌%◌, ◌^◌, ◌<◌, ◌≤◌, ◌≡◌, Bool, List, [], ◌∷◌, ◌++◌, reverse, length, take, drop, All, refl, ap, ap₂, sym, ◌∙◌, subst, arith, append-nil, take-append-drop, length-take-le, mod-lt}
use Rattle.std.proofs.lemmas.List.{take_at, reverse-append, reverse-reverse, length-reverse}
use Rattle.std.proofs.lemmas.List.Elements.{All-head, All-tail, All-cons, All-nil, All-take}
use Rattle.std.proofs.lemmas.Nat.{mod-mul-add, pow-add, le_bytes_8}
use native.Mathlib.Nat.{pow-succ'}
use Rattle.std.specs.Int.{w64, byte_at, bytes_high_first, bytes_low_first, from_be_bytes, from_le_bytes, to_be_bytes, to_le_bytes, swap_bytes}
use Rattle.deku_device.proofs.Laying.{each_byte}
use Rattle.deku_stream.specs.declared.ctx.Order.{Order}
use Rattle.deku_stream.specs.declared.ctx.Order.TheVariants.{Msb0, Lsb0}
use Rattle.deku_stream.specs.Bits.{bin, bits_of, byte_bits, group_number, little, word_of}
use Rattle.deku_stream.specs.Streams.{flow}
use Rattle.deku_stream.proofs.Binary.{bin-append, bin-lt, bin-inj, length-bits_of}
use Rattle.deku_stream.proofs.Bytes.{IsByte}
use Rattle.deku_stream.proofs.Cuts.{length-flow, flow-append, byte-of}
use Rattle.deku_stream.proofs.Groups.{by_groups}
use Rattle.deku_stream.proofs.Packed.{bits_of-split, bits_of-low, bin-whole}
use Rattle.deku_stream.proofs.Packing.{join_law}
use Rattle.deku_stream.proofs.Words.{byte_groups, word_of-full, word_of-short}

-- ---- the numbers of eight bytes
-- the bits of a list's number are the list
pub bits_of-bin : (s : List Bool) → bits_of (length s) (bin s) ≡ s
bits_of-bin s = bin-inj (bits_of (length s) (bin s)) s (length-bits_of (length s) (bin s)) (bin-whole (length s) (bin s) (bin-lt s))

-- the first byte the highest
abbrev high : List ℕ → ℕ
high [] = 0
high (b ∷ bs) = b * 2 ^ (8 * length bs) + high bs

high_flow : (bs : List ℕ) → All IsByte bs → bin (flow Msb0 bs) ≡ high bs
high_flow [] h = refl
high_flow (b ∷ bs) h =
    bin-append (byte_bits b) (flow Msb0 bs)
    ∙ ap₂ (λ x y. x * 2 ^ length (flow Msb0 bs) + y) (byte-of Msb0 b (All-head IsByte b bs h)) (high_flow bs (All-tail IsByte b bs h))
    ∙ ap (λ n. b * 2 ^ n + high bs) (length-flow Msb0 bs)

high_eight : (bytes : List ℕ) → length bytes ≡ 8 → from_be_bytes w64 bytes ≡ high bytes
high_eight (a ∷ b ∷ c ∷ d ∷ e ∷ f ∷ g ∷ h ∷ []) q = omega arith
high_eight _ q = absurd (omega arith)

pub low_eight : (bytes : List ℕ) → length bytes ≡ 8 → from_le_bytes w64 bytes ≡ little bytes
low_eight (a ∷ b ∷ c ∷ d ∷ e ∷ f ∷ g ∷ h ∷ []) q = omega arith
low_eight _ q = absurd (omega arith)

-- a word in `Lsb0` is the number of its bits
pub word_low : (s : List Bool) → word_of Lsb0 s ≡ group_number Lsb0 s
word_low s = by_groups (λ s. word_of Lsb0 s ≡ group_number Lsb0 s) refl
    (λ s p l. word_of-short Lsb0 s (omega arith))
    (λ g t l h.
    word_of-full Lsb0 g t l ∙ ap (λ n. group_number Lsb0 g + 256 * n) h
    ∙ sym ((join_law g t).1 ∙ ap (λ n. group_number Lsb0 g + group_number Lsb0 t * 2 ^ n) l ∙ turn (group_number Lsb0 g) (group_number Lsb0 t)))
    s
  where
    turn : (x y : ℕ) → x + y * 2 ^ 8 ≡ x + 256 * y
    turn x y = omega arith

-- eight bytes as bits, from the front and from the end
pub high_bits : (bytes : List ℕ) → length bytes ≡ 8 → All IsByte bytes → flow Msb0 bytes ≡ bits_of 64 (from_be_bytes w64 bytes)
high_bits bytes l h =
    let long : length (flow Msb0 bytes) ≡ 64 = length-flow Msb0 bytes ∙ omega arith in
    sym (bits_of-bin (flow Msb0 bytes)) ∙ ap₂ bits_of long (high_flow bytes h ∙ sym (high_eight bytes l))

pub low_bits : (bytes : List ℕ) → length bytes ≡ 8 → All IsByte bytes → flow Lsb0 bytes ≡ reverse (bits_of 64 (from_le_bytes w64 bytes))
low_bits bytes l h =
    let s : List Bool = flow Lsb0 bytes in
    let long : length (reverse s) ≡ 64 = length-reverse s ∙ length-flow Lsb0 bytes ∙ omega arith in
    let worth : bin (reverse s) ≡ little bytes =
    sym (word_low s) ∙ ap (λ x. word_of Lsb0 x) (sym (append-nil s)) ∙ ap little (byte_groups Lsb0 bytes [] h ∙ append-nil bytes) in
    sym (reverse-reverse s) ∙ ap reverse (sym (bits_of-bin (reverse s)) ∙ ap₂ bits_of long (worth ∙ sym (low_eight bytes l)))

-- the first bytes
flow_front : (o : Order) (k : ℕ) (bytes : List ℕ) → k ≤ length bytes → flow o (take k bytes) ≡ take (8 * k) (flow o bytes)
flow_front o k bytes h =
    let long : length (flow o (take k bytes)) ≡ 8 * k = length-flow o (take k bytes) ∙ ap (λ n. 8 * n) (length-take-le k bytes h) in
    sym (ap (take (8 * k)) (ap (flow o) (sym (take-append-drop k bytes)) ∙ flow-append o (take k bytes) (drop k bytes))
    ∙ take_at (flow o (take k bytes)) (flow o (drop k bytes)) (8 * k) long)

pub high_front : (k : ℕ) (bytes : List ℕ) → k ≤ 8 → length bytes ≡ 8 → All IsByte bytes → flow Msb0 (take k bytes) ≡ bits_of (8 * k) (from_be_bytes w64 bytes / 2 ^ (64 - 8 * k))
high_front k bytes few l h =
    let v : ℕ = from_be_bytes w64 bytes in
    let all : 64 ≡ 8 * k + (64 - 8 * k) = omega arith in
    let x : List Bool = bits_of (8 * k) (v / 2 ^ (64 - 8 * k)) in
    flow_front Msb0 k bytes (omega arith)
    ∙ ap (take (8 * k)) (high_bits bytes l h ∙ ap (λ n. bits_of n v) all ∙ bits_of-split (8 * k) (64 - 8 * k) v)
    ∙ take_at x (bits_of (64 - 8 * k) v) (8 * k) (length-bits_of (8 * k) (v / 2 ^ (64 - 8 * k)))

pub low_front : (k : ℕ) (bytes : List ℕ) → k ≤ 8 → length bytes ≡ 8 → All IsByte bytes → flow Lsb0 (take k bytes) ≡ reverse (bits_of (8 * k) (from_le_bytes w64 bytes))
low_front k bytes few l h =
    let v : ℕ = from_le_bytes w64 bytes in
    let all : 64 ≡ (64 - 8 * k) + 8 * k = omega arith in
    let x : List Bool = bits_of (64 - 8 * k) (v / 2 ^ (8 * k)) in
    let y : List Bool = bits_of (8 * k) v in
    flow_front Lsb0 k bytes (omega arith)
    ∙ ap (take (8 * k)) (low_bits bytes l h ∙ ap reverse (ap (λ n. bits_of n v) all ∙ bits_of-split (64 - 8 * k) (8 * k) v) ∙ reverse-append x y)
    ∙ take_at (reverse y) (reverse x) (8 * k) (length-reverse y ∙ length-bits_of (8 * k) v)

-- ---- the lowest byte first
-- bytes in front of others
pub little-append : (bs cs : List ℕ) → little (bs ++ cs) ≡ little bs + 2 ^ (8 * length bs) * little cs
little-append [] cs = omega arith
little-append (b ∷ bs) cs =
    let p : 2 ^ (8 * suc (length bs)) ≡ 256 * 2 ^ (8 * length bs) = ap (λ n. 2 ^ n) (omega arith) ∙ pow-add 2 8 (8 * length bs) in
    rw (little-append bs cs, p) (omega arith)

pub little-lt : (bytes : List ℕ) → All IsByte bytes → little bytes < 2 ^ (8 * length bytes)
little-lt [] h = omega arith
little-lt (b ∷ bytes) h =
    let p : 2 ^ (8 * suc (length bytes)) ≡ 256 * 2 ^ (8 * length bytes) = ap (λ n. 2 ^ n) (omega arith) ∙ pow-add 2 8 (8 * length bytes) in
    rw p (omega (arith, All-head IsByte b bytes h, little-lt bytes (All-tail IsByte b bytes h)))

-- the first bytes of a number, the lowest first
pub little_front : (k : ℕ) (bytes : List ℕ) → k ≤ length bytes → All IsByte bytes → little bytes % 2 ^ (8 * k) ≡ little (take k bytes)
little_front k bytes few h =
    let front : List ℕ = take k bytes in
    let long : length front ≡ k = length-take-le k bytes few in
    let small : little front < 2 ^ (8 * k) = subst (λ n. little front < 2 ^ (8 * n)) long (little-lt front (All-take IsByte k bytes h)) in
    let parts : little bytes ≡ little (drop k bytes) * 2 ^ (8 * k) + little front =
    ap little (sym (take-append-drop k bytes)) ∙ little-append front (drop k bytes) ∙ ap (λ n. little front + 2 ^ (8 * n) * little (drop k bytes)) long
    ∙ turn (little front) (2 ^ (8 * k)) (little (drop k bytes)) in
    ap (λ n. n % 2 ^ (8 * k)) parts ∙ mod-mul-add (little (drop k bytes)) (2 ^ (8 * k)) (little front) small
  where
    turn : (x p y : ℕ) → x + p * y ≡ y * p + x
    turn x p y = omega arith

-- ---- the highest byte first
eights : (k : ℕ) → 2 ^ (8 * k) ≡ 256 ^ k
eights zero = refl
eights (suc k) =
    let a : 8 * suc k ≡ 8 + 8 * k = omega arith in
    rw (a, pow-add 2 8 (8 * k), eights k, pow-succ' 256 k) refl

-- the highest bytes of a number first
byte_high : (q m : ℕ) → byte_bits (byte_at q m) ≡ bits_of 8 (m / 256 ^ q)
unfolding byte_bits
byte_high zero m = bits_of-low 8 m ∙ ap (bits_of 8) (omega arith)
byte_high (suc q) m = bits_of-low 8 (m / 256 ^ suc q)

pub flow_high : (q m : ℕ) → flow Msb0 (bytes_high_first q m) ≡ bits_of (8 * q) m
unfolding bits_of
flow_high zero m = refl
flow_high (suc q) m =
    let all : 8 + 8 * q ≡ 8 * suc q = omega arith in
    let top : m / 256 ^ q ≡ m / 2 ^ (8 * q) = ap (λ n. m / n) (sym (eights q)) in
    ap₂ (λ x y. x ++ y) (byte_high q m ∙ ap (λ n. bits_of 8 n) top) (flow_high q m)
    ∙ sym (bits_of-split 8 (8 * q) m) ∙ ap (λ n. bits_of n m) all

byte_at-below : (q m : ℕ) → byte_at q m < 256
byte_at-below zero m = omega arith
byte_at-below (suc q) m = mod-lt (m / 256 ^ suc q) (omega arith)

pub high_first_bytes : (q m : ℕ) → All IsByte (bytes_high_first q m)
high_first_bytes zero m = All-nil IsByte
high_first_bytes (suc q) m = All-cons IsByte (byte_at q m) (bytes_high_first q m) (byte_at-below q m) (high_first_bytes q m)

pub low_first_bytes : (i q m : ℕ) → All IsByte (bytes_low_first i q m)
low_first_bytes i zero m = All-nil IsByte
low_first_bytes i (suc q) m = All-cons IsByte (byte_at i m) (bytes_low_first (suc i) q m) (byte_at-below i m) (low_first_bytes (suc i) q m)

pub length-high_first : (q m : ℕ) → length (bytes_high_first q m) ≡ q
length-high_first zero m = refl
length-high_first (suc q) m = ap suc (length-high_first q m)

-- the bytes of a number that is turned
pub low_swapped : (n : ℕ) → n < 2 ^ 64 → to_le_bytes w64 (swap_bytes w64 n) ≡ to_be_bytes w64 n
low_swapped n fits = le_bytes_8 (to_be_bytes w64 n) (swap_bytes w64 n) refl (each_byte (to_be_bytes w64 n) (high_first_bytes 8 n)) (omega (arith, fits))
