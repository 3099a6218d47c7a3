-- Values that are laid into bytes: bits that are stored, and rows of values.
use Rattle.std.proofs.Common.{◌≡◌, ℕ, zero, suc, ◌+◌, ◌*◌, ◌-◌, ◌/◌, ◌%◌, ◌^◌, ◌<◌, ◌≤◌, Bool, List, [], ◌∷◌, ◌++◌, bit_and, bit_or, length, take, drop, get_or, refl, ap, ap₂, sym, ◌∙◌, subst, arith, append_assoc, append-nil, take-append-drop, length-append, mod-lt}
use Rattle.std.proofs.lemmas.Nat.{and_comm, and_mask, and-not, le_or_l, le_or_r, pow_pos}
use Rattle.std.proofs.lemmas.List.{take_at, take_all, take_more, length-take-le, drop-drop, take-append-le}
use borrow.Rule.Slice.PartMut.{put_mid, post_of}
use Rattle.std.proofs.lemmas.List.Concat.{flat_map-append}
use Rattle.std.proofs.Math.Nat.{pow-le-pow_right}
use Rattle.std.specs.Int.{w64, to_be_bytes}
use Rattle.deku_bits.specs.Bits.{bits_of, byte_bits, bits_in}
use Rattle.deku_bits.specs.declared.ctx.Order.TheVariants.{Msb0}
use Rattle.deku_bits.specs.Streams.{flow}
use Rattle.deku_bits.proofs.Binary.{length-bits_of}
use Rattle.deku_bits.proofs.Cuts.{length-flow, flow-append}
use Rattle.deku_bits.proofs.EightBytes.{flow_high}
use Rattle.deku_bits.proofs.Packed.{bits_of-split, bits_of-low, bits_of-join, joined_below}
use Rattle.deku_fields.specs.declared.list.Number.{Number}
use Rattle.deku_fields.specs.declared.list.Number.TheVariants.{Unsigned}
use Rattle.deku_plan.specs.declared.step.Step.{Step}
use Rattle.deku_plan.specs.Laying.{turns, HasBits, AreFitting, value_bits, row_bits}

-- ---- values that fit
-- nothing above a mask
pub none_beyond : (n mask w : ℕ) → w ≤ 57 → mask + 1 ≡ 2 ^ w → bit_or (n / 2 ^ 64) (bit_and (n % 2 ^ 64) (2 ^ 64 - 1 - mask)) ≡ 0 → n < 2 ^ w
none_beyond n mask w few is none =
    let low : ℕ = n % 2 ^ 64 in
    let top : 2 ^ w ≤ 2 ^ 57 = pow-le-pow_right {n = 2} (omega arith) {i = w} {j = 57} few in
    let small : mask < 2 ^ 64 = omega (arith, is, top) in
    let above : n / 2 ^ 64 ≡ 0 = let h = le_or_l (n / 2 ^ 64) (bit_and low (2 ^ 64 - 1 - mask)) in omega (arith, h, none) in
    let beyond : bit_and (2 ^ 64 - 1 - mask) low ≡ 0 =
    let h = le_or_r (n / 2 ^ 64) (bit_and low (2 ^ 64 - 1 - mask)) in
    let c = and_comm (2 ^ 64 - 1 - mask) low in
    omega (arith, h, none, c) in
    let whole : bit_and (2 ^ 64 - 1 - mask) low + bit_and mask low ≡ low = and-not 64 mask low small (mod-lt n (omega arith)) in
    let m : mask ≡ 2 ^ w - 1 = omega (arith, is) in
    let masked : bit_and mask low ≡ low % 2 ^ w = and_comm mask low ∙ ap (bit_and low) m ∙ and_mask low w in
    let same : low ≡ low % 2 ^ w = omega (arith, whole, beyond, masked) in
    let under : low % 2 ^ w < 2 ^ w = mod-lt low (pow_pos w) in
    omega (arith, same, under, above)

-- ---- bits that are stored
-- a number of n bits, as the first of eight bytes and the bits after them
cut_high : (n v : ℕ) → 0 < n → n ≤ 64 → bits_of n v ≡ bits_in (take (n / 8) (to_be_bytes w64 (v * 2 ^ (64 - n)))) ++ bits_of (n % 8) (v % 2 ^ (n % 8))
cut_high n v some most =
    let q : ℕ = n / 8 in
    let r : ℕ = n % 8 in
    let x : ℕ = v * 2 ^ (64 - n) in
    let bs : List ℕ = to_be_bytes w64 (v * 2 ^ (64 - n)) in
    let e : n ≡ 8 * (n / 8) + n % 8 = omega arith in
    let all : n + (64 - n) ≡ 64 = omega arith in
    let z : v * 2 ^ (64 - n) + 0 ≡ v * 2 ^ (64 - n) = omega arith in
    let two : bits_of n v ≡ bits_of (8 * q) (v / 2 ^ r) ++ bits_of r v = ap (λ i. bits_of i v) e ∙ bits_of-split (8 * q) r v in
    let wide : bits_of n v ++ bits_of (64 - n) 0 ≡ flow Msb0 bs =
    bits_of-join n (64 - n) v 0 (pow_pos (64 - n)) ∙ ap₂ (λ i y. bits_of i y) all z ∙ sym (flow_high 8 x) in
    let parts : bits_of (8 * q) (v / 2 ^ r) ++ (bits_of r v ++ bits_of (64 - n) 0) ≡ flow Msb0 (take q bs) ++ flow Msb0 (drop q bs) =
    sym (append_assoc (bits_of (8 * q) (v / 2 ^ r)) (bits_of r v) (bits_of (64 - n) 0)) ∙ ap (λ s. s ++ bits_of (64 - n) 0) (sym two) ∙ wide
    ∙ ap (flow Msb0) (sym (take-append-drop q bs)) ∙ flow-append Msb0 (take q bs) (drop q bs) in
    let long : length (flow Msb0 (take q bs)) ≡ 8 * q = length-flow Msb0 (take q bs) ∙ omega (arith, length-take-le q bs (omega arith)) in
    let front : bits_of (8 * q) (v / 2 ^ r) ≡ flow Msb0 (take q bs) =
    sym (take_at (bits_of (8 * q) (v / 2 ^ r)) (bits_of r v ++ bits_of (64 - n) 0) (8 * q) (length-bits_of (8 * q) (v / 2 ^ r)))
    ∙ ap (take (8 * q)) parts ∙ take_at (flow Msb0 (take q bs)) (flow Msb0 (drop q bs)) (8 * q) long in
    two ∙ ap₂ (λ a b. a ++ b) front (sym (bits_of-low r v))

-- the whole bytes of held bits are stored after the bytes before a place
pub stored : (old new : List ℕ) (place n v : ℕ) → 0 < n → n ≤ 64 → take (place + n / 8) new ≡ take place old ++ take (n / 8) (to_be_bytes w64 (v * 2 ^ (64 - n)))
    → bits_in (take (place + n / 8) new) ++ bits_of (n % 8) (v % 2 ^ (n % 8)) ≡ bits_in (take place old) ++ bits_of n v
stored old new place n v some most front =
    let first : List ℕ = take place old in
    let next : List ℕ = take (n / 8) (to_be_bytes w64 (v * 2 ^ (64 - n))) in
    let last : List Bool = bits_of (n % 8) (v % 2 ^ (n % 8)) in
    ap (λ x. bits_in x ++ last) front
    ∙ ap (λ x. x ++ last) (flat_map-append byte_bits first next)
    ∙ append_assoc (bits_in first) (bits_in next) last
    ∙ ap (λ x. bits_in first ++ x) (sym (cut_high n v some most))

-- where no bits are left
pub stored_whole : (old new : List ℕ) (place n v : ℕ) → 0 < n → n ≤ 64 → n % 8 ≡ 0 → take (place + n / 8) new ≡ take place old ++ take (n / 8) (to_be_bytes w64 (v * 2 ^ (64 - n)))
    → bits_in (take (place + n / 8) new) ++ bits_of 0 0 ≡ bits_in (take place old) ++ bits_of n v
unfolding bits_of
stored_whole old new place n v some most whole front =
    ap (λ r. bits_in (take (place + n / 8) new) ++ bits_of r (v % 2 ^ r)) (sym whole) ∙ stored old new place n v some most front

-- a value after held bits
pub held_more : (front : List Bool) (held word mask w n : ℕ) → mask + 1 ≡ 2 ^ w → n < 2 ^ w → front ++ bits_of (held + w) (word * (mask + 1) + n) ≡ (front ++ bits_of held word) ++ bits_of w n
held_more front held word mask w n is h =
    ap (λ m. front ++ bits_of (held + w) (word * m + n)) is
    ∙ ap (λ x. front ++ x) (sym (bits_of-join held w word n h))
    ∙ sym (append_assoc front (bits_of held word) (bits_of w n))

pub held_below : (held word mask w n : ℕ) → mask + 1 ≡ 2 ^ w → word < 2 ^ held → n < 2 ^ w → word * (mask + 1) + n < 2 ^ (held + w)
held_below held word mask w n is below h = rw is (joined_below held w word n below h)

pub within_word : (n k : ℕ) → k ≤ 64 → n < 2 ^ k → n < 2 ^ 64
within_word n k few h = let top : 2 ^ k ≤ 2 ^ 64 = pow-le-pow_right {n = 2} (omega arith) {i = k} {j = 64} few in omega (arith, h, top)

-- the low part of a value that fits
pub low_part : (n w : ℕ) → w ≤ 57 → n < 2 ^ w → n % 2 ^ 64 ≡ n
low_part n w few fits = let small = within_word n w (omega (arith, few)) fits in omega (arith, small)

-- a value without bits beyond a mask
pub fits_mask : (v : Number) (n mask : ℕ) → v ≡ Unsigned n → bit_or (n / 2 ^ 64) (bit_and (n % 2 ^ 64) (2 ^ 64 - 1 - mask)) ≡ 0 → (w : ℕ) → w ≤ 57 → mask + 1 ≡ 2 ^ w → HasBits w v
fits_mask v n mask e none w few is = subst (HasBits w) (sym e) (none_beyond n mask w few is none)

pub no_more : (a b : ℕ) → bit_or a b ≡ 0 → (a ≡ 0) × (b ≡ 0)
no_more a b e = (let h = le_or_l a b in omega (arith, h, e), let h = le_or_r a b in omega (arith, h, e))

-- ---- rows of values
pub value_more : (ss : List Step) (ns : List Number) (i : ℕ) (d : Step) (e : Number) → i < length ss → i < length ns
    → row_bits (take (i + 1) ss) (take (i + 1) ns) ≡ row_bits (take i ss) (take i ns) ++ value_bits (get_or ss i d).width (get_or ns i e)
value_more [] ns i d e l m = absurd (omega (arith, l))
value_more (s ∷ ss) [] i d e l m = absurd (omega (arith, m))
value_more (s ∷ ss) (n ∷ ns) zero d e l m = append-nil (value_bits s.width n)
value_more (s ∷ ss) (n ∷ ns) (suc i) d e l m =
    let next : suc i + 1 ≡ suc (i + 1) = omega arith in
    ap (λ k. row_bits (take k (s ∷ ss)) (take k (n ∷ ns))) next
    ∙ ap (λ x. value_bits s.width n ++ x) (value_more ss ns i d e (omega (arith, l)) (omega (arith, m)))
    ∙ sym (append_assoc (value_bits s.width n) (row_bits (take i ss) (take i ns)) (value_bits (get_or ss i d).width (get_or ns i e)))

pub row_append : (ss ts : List Step) (ns ms : List Number) → length ns ≡ length ss → row_bits (ss ++ ts) (ns ++ ms) ≡ row_bits ss ns ++ row_bits ts ms
row_append [] ts [] ms l = refl
row_append [] ts (n ∷ ns) ms l = absurd (omega (arith, l))
row_append (s ∷ ss) ts [] ms l = absurd (omega (arith, l))
row_append (s ∷ ss) ts (n ∷ ns) ms l =
    ap (λ x. value_bits s.width n ++ x) (row_append ss ts ns ms (omega (arith, l))) ∙ sym (append_assoc (value_bits s.width n) (row_bits ss ns) (row_bits ts ms))

pub fitting_append : (ss ts : List Step) (ns ms : List Number) → AreFitting ss ns → AreFitting ts ms → AreFitting (ss ++ ts) (ns ++ ms)
fitting_append [] ts [] ms h k = k
fitting_append [] ts (n ∷ ns) ms h k = absurd h
fitting_append (s ∷ ss) ts [] ms h k = absurd h
fitting_append (s ∷ ss) ts (n ∷ ns) ms h k = (h.0, fitting_append ss ts ns ms h.1 k)

pub fits_at : (ss : List Step) (ns : List Number) (i : ℕ) (d : Step) (e : Number) → AreFitting ss ns → i < length ss → HasBits (get_or ss i d).width (get_or ns i e)
fits_at [] ns i d e h l = absurd (omega (arith, l))
fits_at (s ∷ ss) [] i d e h l = absurd h
fits_at (s ∷ ss) (n ∷ ns) zero d e h l = h.0
fits_at (s ∷ ss) (n ∷ ns) (suc i) d e h l = fits_at ss ns i d e h.1 (omega (arith, l))

fitting_push : (ss : List Step) (ns : List Number) (s : Step) (n : Number) → AreFitting ss ns → HasBits s.width n → AreFitting (ss ++ s ∷ []) (ns ++ n ∷ [])
fitting_push ss ns s n h k = fitting_append ss (s ∷ []) ns (n ∷ []) h (k, tt)

pub fitting_more : (ss : List Step) (ns : List Number) (i : ℕ) (d : Step) (e : Number) → i < length ss → i < length ns → AreFitting (take i ss) (take i ns) → HasBits (get_or ss i d).width (get_or ns i e)
    → AreFitting (take (i + 1) ss) (take (i + 1) ns)
fitting_more ss ns i d e l m h k = rw (take_more ss i d l, take_more ns i e m) (fitting_push (take i ss) (take i ns) (get_or ss i d) (get_or ns i e) h k)

-- ---- rows of records
pub turns_more : (i : ℕ) (ss : List Step) → turns (i + 1) ss ≡ turns i ss ++ ss
turns_more zero ss = append-nil ss
turns_more (suc i) ss =
    let next : suc i + 1 ≡ suc (i + 1) = omega arith in
    ap (λ k. turns k ss) next ∙ ap (λ x. ss ++ x) (turns_more i ss) ∙ sym (append_assoc ss (turns i ss) ss)

pub turns_long : (i : ℕ) (ss : List Step) → length (turns i ss) ≡ i * length ss
turns_long zero ss = omega arith
turns_long (suc i) ss = let h = turns_long i ss in omega (arith, h, length-append ss (turns i ss))

-- values in front of a place, and the next of them
parts : (place next k : ℕ) (ns ms : List Number) → next ≡ place + k → next ≤ length ns → ms ≡ take k (drop place ns) → take next ns ≡ take place ns ++ ms
parts place next k ns ms e inside is =
    ap (λ n. take n ns) e ∙ front place k ns (omega (arith, e, inside)) ∙ ap (λ x. take place ns ++ x) (sym is)
  where
    front : (p k : ℕ) (xs : List Number) → p + k ≤ length xs → take (p + k) xs ≡ take p xs ++ take k (drop p xs)
    front zero k xs h = let none : 0 + k ≡ k = omega arith in ap (λ n. take n xs) none
    front (suc p) k [] h = absurd (omega (arith, h))
    front (suc p) k (x ∷ xs) h =
        let same : suc p + k ≡ suc (p + k) = omega arith in
        ap (λ n. take n (x ∷ xs)) same ∙ ap (λ ys. x ∷ ys) (front p k xs (omega (arith, h)))

pub record_more : (ss : List Step) (i place next : ℕ) (ns ms : List Number) → place ≡ i * length ss → next ≡ place + length ss → next ≤ length ns → ms ≡ take (length ss) (drop place ns)
    → row_bits (turns (i + 1) ss) (take next ns) ≡ row_bits (turns i ss) (take place ns) ++ row_bits ss ms
record_more ss i place next ns ms at e inside is =
    let long : length (take place ns) ≡ length (turns i ss) = length-take-le place ns (omega (arith, e, inside)) ∙ at ∙ sym (turns_long i ss) in
    ap₂ row_bits (turns_more i ss) (parts place next (length ss) ns ms e inside is) ∙ row_append (turns i ss) ss (take place ns) ms long

pub record_fits : (ss : List Step) (i place next : ℕ) (ns ms : List Number) → next ≡ place + length ss → next ≤ length ns → ms ≡ take (length ss) (drop place ns)
    → AreFitting (turns i ss) (take place ns) → AreFitting ss ms → AreFitting (turns (i + 1) ss) (take next ns)
record_fits ss i place next ns ms e inside is h k = rw (turns_more i ss, parts place next (length ss) ns ms e inside is) (fitting_append (turns i ss) ss (take place ns) ms h k)

fitting_front : (ss ts : List Step) (ns : List Number) → AreFitting (ss ++ ts) ns → AreFitting ss (take (length ss) ns) × AreFitting ts (drop (length ss) ns)
fitting_front [] ts ns h = (tt, h)
fitting_front (s ∷ ss) ts [] h = absurd h
fitting_front (s ∷ ss) ts (n ∷ ns) h = let others = fitting_front ss ts ns h.1 in ((h.0, others.0), others.1)

-- each record of values that fit
pub one_fits : (ss : List Step) (count i place : ℕ) (ns : List Number) → i < count → place ≡ i * length ss → AreFitting (turns count ss) ns → AreFitting ss (take (length ss) (drop place ns))
one_fits ss zero i place ns l at h = absurd (omega (arith, l))
one_fits ss (suc count) zero place ns l at h =
    let none : place ≡ 0 = omega (arith, at) in
    subst (λ p. AreFitting ss (take (length ss) (drop p ns))) (sym none) (fitting_front ss (turns count ss) ns h).0
one_fits ss (suc count) (suc i) place ns l at h =
    let others = one_fits ss count i (i * length ss) (drop (length ss) ns) (omega (arith, l)) refl (fitting_front ss (turns count ss) ns h).1 in
    let far : i * length ss + length ss ≡ place = omega (arith, at) in
    subst (λ x. AreFitting ss (take (length ss) x)) (drop-drop (i * length ss) (length ss) ns ∙ ap (λ p. drop p ns) (omega (arith, far))) others

-- all bytes are stored
pub all_stored : (bytes : List ℕ) (place held word : ℕ) → held ≡ 0 → place ≡ length bytes → bits_in (take place bytes) ++ bits_of held word ≡ bits_in bytes
unfolding bits_of
all_stored bytes place held word none all =
    ap (λ h. bits_in (take place bytes) ++ bits_of h word) none ∙ append-nil (bits_in (take place bytes)) ∙ ap bits_in (take_all place bytes (omega (arith, all)))

pub no_bits : bits_of 0 0 ≡ []
unfolding bits_of
no_bits = refl

-- the first of bytes that are put into their places
pub take_part : (place n k : ℕ) (old part eight : List ℕ) → part ≡ eight → place ≤ length old → n ≤ length eight → take (place + n) (put_mid place k old part) ≡ take place old ++ take n eight
take_part place n k old part eight is inside few =
    let long : length (take place old) ≡ place = length-take-le place old inside in
    ap (λ x. take (place + n) (take place old ++ (x ++ post_of place k old))) is
    ∙ behind place n (take place old) (eight ++ post_of place k old) long
    ∙ ap (λ x. take place old ++ x) (take-append-le n eight (post_of place k old) few)
  where
    behind : (p n : ℕ) (xs ys : List ℕ) → length xs ≡ p → take (p + n) (xs ++ ys) ≡ xs ++ take n ys
    behind zero n [] ys l = let none : 0 + n ≡ n = omega arith in ap (λ k. take k ys) none
    behind zero n (x ∷ xs) ys l = absurd (omega (arith, l))
    behind (suc p) n [] ys l = absurd (omega (arith, l))
    behind (suc p) n (x ∷ xs) ys l =
        let same : suc p + n ≡ suc (p + n) = omega arith in
        ap (λ k. take k (x ∷ (xs ++ ys))) same ∙ ap (λ zs. x ∷ zs) (behind p n xs ys (omega (arith, l)))
