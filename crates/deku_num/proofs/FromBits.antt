-- The numbers of fields, from those of their bits.
use Rattle.std.proofs.Common.{◌≡◌, ℕ, ◌+◌, ◌*◌, ◌-◌, ◌/◌, ◌%◌, ◌^◌, ◌<◌, ◌≤◌, ◌++◌, ℤ, Bool, List, reverse, length, take, arith, refl, sym, ap, ◌∙◌, subst, mod-eq_of_lt}
use Rattle.std.proofs.lemmas.List.{reverse-reverse, reverse-append, take_at}
use Rattle.std.proofs.lemmas.Nat.{shl_below, shl-shr, from_be_bytes-to_be_bytes_8, from_le_bytes-to_le_bytes_8}
use Rattle.std.specs.Int.{w64, w128, swap_bytes, to_be_bytes, to_le_bytes}
use Rattle.deku_bits.specs.declared.ctx.Order.{Order}
use Rattle.deku_bits.specs.declared.ctx.Order.TheVariants.{Msb0, Lsb0}
use Rattle.deku_bits.specs.Bits.{bin, bits_of, facing}
use Rattle.deku_bits.specs.Streams.{flow}
use Rattle.deku_bits.proofs.Binary.{length-bits_of, length-facing, facing-facing}
use Rattle.deku_bits.proofs.Packed.{bin-whole, bits_of-split}
use Rattle.deku_bits.proofs.EightBytes.{word_low, high_bits, low_bits, high_first_bytes, low_first_bytes}
use Rattle.deku_bits.proofs.Words.{word_of-short}
use Rattle.deku_num.specs.declared.ctx.Endian.{Endian}
use Rattle.deku_num.specs.declared.ctx.Endian.TheVariants.{Little, Big}
use Rattle.deku_num.specs.declared.ctx.Layout.{Layout}
use Rattle.deku_num.specs.declared.kind.NumberType.{NumberType}
use Rattle.deku_num.specs.Cutting.{front, IsCutValue}
use Rattle.deku_num.specs.Numbers.{number, value, width, IsAllowed}
use Rattle.deku_num.proofs.Turned.{word_is, low_turned, high_turned, low_back, high_back}
use Rattle.deku_num.proofs.Narrow.{one_group}
use Rattle.deku_num.proofs.Carrying.{high_number}

-- how many they are
pub length-faced : (o : Order) (n k : ℕ) → length (facing o (bits_of n k)) ≡ n
length-faced o n k = length-facing o (bits_of n k) ∙ length-bits_of n k

-- of one group
pub group_is : (e : Endian) (o : Order) (n k : ℕ) → n ≤ 8 → k < 2 ^ n → k ≡ number e o (facing o (bits_of n k))
group_is e o n k few small =
    let s : List Bool = facing o (bits_of n k) in
    let short : length s ≤ 8 = omega (arith, length-faced o n k, few) in
    sym (ap bin (facing-facing o (bits_of n k)) ∙ bin-whole n k small) ∙ sym (word_of-short o s short) ∙ one_group e o s short

-- in little and `Lsb0`
pub low_is : (n k : ℕ) → k < 2 ^ n → k ≡ number Little Lsb0 (reverse (bits_of n k))
low_is n k small =
    let s : List Bool = reverse (bits_of n k) in
    sym (ap bin (reverse-reverse (bits_of n k)) ∙ bin-whole n k small) ∙ sym (word_low s) ∙ word_is Lsb0 s

-- of whole bytes in little and `Msb0`, and in big and `Lsb0`
pub high_turned_is : (n k : ℕ) → n % 8 ≡ 0 → n ≤ 128 → k < 2 ^ n → swap_bytes w128 k / 2 ^ (128 - 8 * (n / 8)) ≡ number Little Msb0 (bits_of n k)
high_turned_is n k whole few small =
    let s : List Bool = bits_of n k in
    let long : length s ≡ n = length-bits_of n k in
    high_back s k (n / 8) (omega (arith, long, few)) (omega (arith, long, whole)) (high_number n k small) ∙ word_is Msb0 s

pub low_turned_is : (n k : ℕ) → n % 8 ≡ 0 → n ≤ 128 → k < 2 ^ n → swap_bytes w128 k / 2 ^ (128 - 8 * (n / 8)) ≡ number Big Lsb0 (reverse (bits_of n k))
low_turned_is n k whole few small =
    let s : List Bool = reverse (bits_of n k) in
    let long : length s ≡ n = length-faced Lsb0 n k in
    low_turned s k (n / 8) (omega (arith, long, few)) (omega (arith, long, whole)) (sym (ap bin (reverse-reverse (bits_of n k)) ∙ bin-whole n k small) ∙ sym (word_low s))

-- turned again, it is the number of the bits
pub high_turned_again : (n k m : ℕ) → n % 8 ≡ 0 → n ≤ 128 → k < 2 ^ n → m < 2 ^ n → m ≡ number Little Msb0 (bits_of n k) → k ≡ number Little Msb0 (bits_of n m)
high_turned_again n k m whole few small low is =
    let s : List Bool = bits_of n k in
    let long : length s ≡ n = length-bits_of n k in
    high_number n k small ∙ sym (high_turned s m (n / 8) (omega (arith, long, few)) (omega (arith, long, whole)) (is ∙ sym (word_is Msb0 s))) ∙ high_turned_is n m whole few low

pub low_turned_again : (n k m : ℕ) → n % 8 ≡ 0 → n ≤ 128 → k < 2 ^ n → m < 2 ^ n → m ≡ number Big Lsb0 (reverse (bits_of n k)) → k ≡ number Big Lsb0 (reverse (bits_of n m))
low_turned_again n k m whole few small low is =
    let s : List Bool = reverse (bits_of n k) in
    let long : length s ≡ n = length-faced Lsb0 n k in
    low_is n k small ∙ sym (word_is Lsb0 s) ∙ sym (low_back s m (n / 8) (omega (arith, long, few)) (omega (arith, long, whole)) is) ∙ low_turned_is n m whole few low

-- a field that is cut, from the number of its bits
pub cut_is : (t : NumberType) (l : Layout) (o : Order) (word room n first : ℕ) (v : ℤ) → 0 < n → n ≤ room → n ≡ width t l → l.order ≡ o → IsAllowed t l → first ≡ front o word n (room - n)
    → v ≡ value t l (facing o (bits_of n first)) → IsCutValue t l o word room v n
cut_is t l o word room n first v some within wide order ok is worth = record {
  some = some;
  within = within;
  wide = wide;
  order = order;
  ok = ok;
  worth = worth ∙ ap (λ f. value t l (facing o (bits_of n f))) is;
}

-- eight bytes that begin with the bits of a number, in `Msb0` and in `Lsb0`
pub high_front_is : (n k : ℕ) → n ≤ 64 → k < 2 ^ n → take n (flow Msb0 (to_be_bytes w64 (k * 2 ^ (64 - n) % 2 ^ 64))) ≡ bits_of n k
high_front_is n k few small =
    let x : ℕ = k * 2 ^ (64 - n) in
    let eight : List ℕ = to_be_bytes w64 x in
    let wide : n + (64 - n) ≡ 64 = omega (arith, few) in
    let fits : x < 2 ^ 64 = subst (λ j. x < 2 ^ j) wide (shl_below k n (64 - n) small) in
    let bits : flow Msb0 eight ≡ bits_of n k ++ bits_of (64 - n) x =
    high_bits eight refl (high_first_bytes 8 x) ∙ ap (bits_of 64) (from_be_bytes-to_be_bytes_8 x fits) ∙ ap (λ j. bits_of j x) (sym wide) ∙ bits_of-split n (64 - n) x ∙ ap (λ y. bits_of n y ++ bits_of (64 - n) x) (shl-shr k (64 - n)) in
    ap (λ y. take n (flow Msb0 (to_be_bytes w64 y))) (mod-eq_of_lt fits) ∙ ap (take n) bits ∙ take_at (bits_of n k) (bits_of (64 - n) x) n (length-bits_of n k)

pub low_front_is : (n k : ℕ) → n ≤ 64 → k < 2 ^ 64 → take n (flow Lsb0 (to_le_bytes w64 k)) ≡ reverse (bits_of n k)
low_front_is n k few fits =
    let eight : List ℕ = to_le_bytes w64 k in
    let wide : 64 ≡ (64 - n) + n = omega (arith, few) in
    let others : List Bool = bits_of (64 - n) (k / 2 ^ n) in
    let bits : flow Lsb0 eight ≡ reverse (bits_of n k) ++ reverse others =
    low_bits eight refl (low_first_bytes 0 8 k) ∙ ap (λ j. reverse (bits_of 64 j)) (from_le_bytes-to_le_bytes_8 k fits) ∙ ap (λ j. reverse (bits_of j k)) wide ∙ ap reverse (bits_of-split (64 - n) n k) ∙ reverse-append others (bits_of n k) in
    ap (take n) bits ∙ take_at (reverse (bits_of n k)) (reverse others) n (length-faced Lsb0 n k)
