-- One bit of bytes as they are printed.
use Rattle.std.proofs.Common.{ℕ, zero, suc, ◌+◌, ◌*◌, ◌-◌, ◌/◌, ◌%◌, ◌^◌, ◌<◌, ◌≤◌, ◌≡◌, Bool, false, cond, eqb, List, [], ◌∷◌, reverse, length, take, get_or, replicate, refl, ap, ap₂, sym, ◌∙◌, subst, ⊎_elim, arith, length-take-le, mod-lt}
use Rattle.std.proofs.lemmas.Bool.{cases_lt}
use Rattle.std.proofs.lemmas.List.{length-reverse, get_or-reverse, get_or_append_left, get_or-append_right, get_or-replicate}
use Rattle.deku_bits.specs.declared.ctx.Order.{Order}
use Rattle.deku_bits.specs.declared.ctx.Order.TheVariants.{Msb0, Lsb0}
use Rattle.deku_bits.specs.Bits.{bits_of, byte_bits, facing, group_number}
use Rattle.deku_bits.specs.Streams.{flow}
use Rattle.deku_bits.specs.Pieces.{filled, cleared}
use Rattle.deku_bits.proofs.Cuts.{length-filled}
use Rattle.deku_num.specs.declared.ctx.Endian.TheVariants.{Little}
use Rattle.deku_num.specs.Numbers.{number}
use Rattle.deku_num.specs.NumberLaws.{place}
use Rattle.deku_num.proofs.Ranges.{group_law}
use Rattle.deku_fields.specs.Places.{printed_at, printed}
use Rattle.deku_fields.proofs.OneBit.{number_bit}

-- ---- of a byte
get-bits_of : (n v r : ℕ) → r < n → get_or (bits_of n v) r false ≡ eqb (v / 2 ^ (n - 1 - r) % 2) 1
unfolding bits_of
get-bits_of zero v r h = absurd (omega arith)
get-bits_of (suc n) v zero h = let e : n ≡ suc n - 1 - 0 = omega arith in ap (λ x. eqb (v / 2 ^ x % 2) 1) e
get-bits_of (suc n) v (suc r) h = let e : n - 1 - r ≡ suc n - 1 - suc r = omega arith in get-bits_of n v r (omega arith) ∙ ap (λ x. eqb (v / 2 ^ x % 2) 1) e

bit_number : (x : ℕ) → x < 2 → cond (eqb x 1) 1 0 ≡ x
bit_number zero h = refl
bit_number (suc zero) h = refl
bit_number (suc (suc x)) h = absurd (omega arith)

length-bits_of : (b : ℕ) → length (bits_of 8 b) ≡ 8
unfolding bits_of
length-bits_of b = refl

pub eight : (o : Order) (b : ℕ) → length (facing o (byte_bits b)) ≡ 8
unfolding byte_bits
eight Msb0 b = length-bits_of b
eight Lsb0 b = length-reverse (bits_of 8 b) ∙ length-bits_of b

high_bit : (b j : ℕ) → j < 8 → cond (get_or (bits_of 8 b) j false) 1 0 ≡ b / 2 ^ (8 - 1 - j) % 2
high_bit b j h = ap (λ x. cond x 1 0) (get-bits_of 8 b j h) ∙ bit_number (b / 2 ^ (8 - 1 - j) % 2) (mod-lt (b / 2 ^ (8 - 1 - j)) (omega arith))

turned : (s : List Bool) (r : ℕ) → length s ≡ 8 → r < 8 → get_or (reverse s) r false ≡ get_or s (8 - 1 - r) false
turned s r l h = get_or-reverse s r false (omega arith) ∙ ap (λ n. get_or s (n - 1 - r) false) l

low_bit : (b r : ℕ) → r < 8 → cond (get_or (reverse (bits_of 8 b)) r false) 1 0 ≡ b / 2 ^ (8 - 1 - (8 - 1 - r)) % 2
low_bit b r h = ap (λ x. cond x 1 0) (turned (bits_of 8 b) r (length-bits_of b) h) ∙ high_bit b (8 - 1 - r) (omega arith)

high_weight : (r : ℕ) → r < 8 → 8 - 1 - r ≡ 7 - printed_at Msb0 r % 8
high_weight r h = omega arith

low_weight : (r : ℕ) → r < 8 → 8 - 1 - (8 - 1 - r) ≡ 7 - printed_at Lsb0 r % 8
low_weight r h = omega arith

-- a bit of a byte, as an order meets it
byte_bit : (o : Order) (b r : ℕ) → r < 8 → cond (get_or (facing o (byte_bits b)) r false) 1 0 ≡ b / 2 ^ (7 - printed_at o r % 8) % 2
unfolding byte_bits
byte_bit Msb0 b r h = high_bit b r h ∙ ap (λ n. b / 2 ^ n % 2) (high_weight r h)
byte_bit Lsb0 b r h = low_bit b r h ∙ ap (λ n. b / 2 ^ n % 2) (low_weight r h)

first_byte : (o : Order) (n : ℕ) → n < 8 → printed_at o n / 8 ≡ 0
first_byte Msb0 n h = omega arith
first_byte Lsb0 n h = omega arith

shift : (o : Order) (n : ℕ) → printed_at o (8 + n) ≡ 8 + printed_at o n
shift Msb0 n = refl
shift Lsb0 n = omega arith

pub printed_first : (o : Order) (b : ℕ) (bs : List ℕ) (n : ℕ) → n < 8 → printed (b ∷ bs) (printed_at o n) ≡ b / 2 ^ (7 - printed_at o n % 8) % 2
printed_first o b bs n h = ap (λ i. get_or (b ∷ bs) i 0 / 2 ^ (7 - printed_at o n % 8) % 2) (first_byte o n h)

pub printed_later : (o : Order) (b : ℕ) (bs : List ℕ) (n : ℕ) → printed (b ∷ bs) (printed_at o (8 + n)) ≡ printed bs (printed_at o n)
printed_later o b bs n =
    let k : ℕ = printed_at o n in
    let q : (8 + k) / 8 ≡ suc (k / 8) = omega arith in
    let r : (8 + k) % 8 ≡ k % 8 = omega arith in
    ap (printed (b ∷ bs)) (shift o n) ∙ ap₂ (λ i j. get_or (b ∷ bs) i 0 / 2 ^ (7 - j) % 2) q r

-- a bit of bytes, as an order meets them
pub flow_bit : (o : Order) (bs : List ℕ) (n : ℕ) → n < 8 * length bs → cond (get_or (flow o bs) n false) 1 0 ≡ printed bs (printed_at o n)
flow_bit o [] n h = absurd (omega arith)
flow_bit o (b ∷ bs) n h = ⊎_elim
    (λ (l : n < 8). ap (λ x. cond x 1 0) (get_or_append_left (facing o (byte_bits b)) (flow o bs) false n (omega (arith, eight o b)))
    ∙ byte_bit o b n l ∙ sym (printed_first o b bs n l))
    (λ (l : 8 ≤ n).
    let e : 8 + (n - 8) ≡ n = omega arith in
    ap (λ x. cond x 1 0) (get_or-append_right (facing o (byte_bits b)) (flow o bs) 8 n false (eight o b) l)
    ∙ flow_bit o bs (n - 8) (omega arith) ∙ sym (printed_later o b bs (n - 8)) ∙ ap (λ x. printed (b ∷ bs) (printed_at o x)) e)
    (cases_lt n 8)

-- ---- of a byte that a group makes
group_place : (o : Order) (n r : ℕ) → n ≡ 8 → r < 8 → 7 - printed_at o r % 8 ≡ place Little o n r
group_place Msb0 n r e h = omega arith
group_place Lsb0 n r e h = omega arith

-- it shows the group's bits
group_bit : (o : Order) (g : List Bool) (r : ℕ) → length g ≡ 8 → r < 8 → group_number o g / 2 ^ (7 - printed_at o r % 8) % 2 ≡ cond (get_or g r false) 1 0
group_bit o g r l h =
    ap (λ x. x / 2 ^ (7 - printed_at o r % 8) % 2) (sym (group_law Little o g (omega arith) (omega arith)).0)
    ∙ ap (λ n. number Little o g / 2 ^ n % 2) (group_place o (length g) r l h) ∙ number_bit Little o g r (omega arith)

-- a group that is filled up has eight bits, and so its byte is one
pub filled_below : (o : Order) (g : List Bool) → length g ≤ 8 → group_number o (filled g) < 256
filled_below o g l =
    let full : length (filled g) ≡ 8 = length-filled g l in
    subst (λ n. group_number o (filled g) < 2 ^ n) full (group_law Little o (filled g) (omega arith) (omega arith)).1

-- bits that are cleared are zero
pub cleared_bit : (o : Order) (w : ℕ) (bs : List ℕ) (n : ℕ) → w ≤ 8 → n < 8 * length bs → 8 * length bs ≤ n + w → printed (cleared o w bs) (printed_at o n) ≡ 0
cleared_bit o w [] n s h k = absurd (omega arith)
cleared_bit o w (b ∷ []) n s h k =
    let g : List Bool = take (8 - w) (facing o (byte_bits b)) in
    let l : length g ≡ 8 - w = length-take-le (8 - w) (facing o (byte_bits b)) (omega (arith, eight o b)) in
    let full : length (filled g) ≡ 8 = length-filled g (omega arith) in
    let zero_bit : get_or (filled g) n false ≡ false =
    get_or-append_right g (replicate (8 - length g) false) (8 - w) n false l (omega arith)
    ∙ get_or-replicate (8 - length g) (n - (8 - w)) false false (omega arith) in
    printed_first o (group_number o (filled g)) [] n (omega arith) ∙ group_bit o (filled g) n full (omega arith) ∙ ap (λ x. cond x 1 0) zero_bit
cleared_bit o w (b ∷ c ∷ bs) n s h k =
    let e : n ≡ 8 + (n - 8) = omega arith in
    ap (λ x. printed (b ∷ cleared o w (c ∷ bs)) (printed_at o x)) e ∙ printed_later o b (cleared o w (c ∷ bs)) (n - 8)
    ∙ cleared_bit o w (c ∷ bs) (n - 8) s (omega arith) (omega arith)
