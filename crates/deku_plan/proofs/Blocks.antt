-- Records that are joined a field at a time.
use Rattle.std.proofs.Common.{◌≡◌, ◌⊎◌, ℕ, zero, suc, ◌+◌, ◌*◌, ◌-◌, ◌/◌, ◌%◌, ◌^◌, ◌<◌, ◌≤◌, Bool, List, [], ◌∷◌, ◌++◌, bit_and, length, take, drop, replicate, get_or, All, inl, inr, ⊎_elim, refl, ap, ap₂, sym, ◌∙◌, subst, arith, append_assoc, append-nil, length-append, length-drop, mod-lt, mod-eq_of_lt}
use Rattle.std.proofs.lemmas.Nat.{and_comm, and_mask, and-not, pow_pos}
use Rattle.std.proofs.lemmas.List.{take_more, length-take-le, get_or-take, get_or-drop}
use Rattle.std.proofs.lemmas.List.Concat.{flat_map-append}
use Rattle.std.proofs.Math.Nat.{pow-le-pow_right}
use Rattle.std.specs.Int.{w64, to_be_bytes}
use Rattle.deku_bits.specs.Bits.{bits_of, byte_bits, bits_in}
use Rattle.deku_fields.specs.declared.list.Number.{Number}
use Rattle.deku_fields.specs.declared.list.Number.TheVariants.{Unsigned, Signed}
use Rattle.deku_plan.specs.declared.step.Step.{Step}
use Rattle.deku_plan.specs.declared.part.Part.{Part}
use Rattle.deku_plan.specs.Plans.{widths}
use Rattle.deku_plan.specs.Laying.{HasBits, turns, AreFitting, row_bits}
use Rattle.deku_plan.specs.Joining.{held_after, AreParts}
use Rattle.deku_plan.specs.Blocks.{with_size, group_sizes, all_sizes, with_first, group_words, word_bits, words_bits}
use Rattle.deku_plan.proofs.Laying.{one_fits, record_more, record_fits}
use Rattle.deku_plan.proofs.Joining.{no_held, word_below, word_low, held_value, group_stored}
use Rattle.deku_plan.proofs.Recorded.{room}

-- ---- a field of records
pub earlier_or_last : (r n : ℕ) → r < n + 1 → (r < n) ⊎ (r ≡ n)
earlier_or_last zero zero h = inr refl
earlier_or_last zero (suc n) h = inl (omega arith)
earlier_or_last (suc r) zero h = absurd (omega (arith, h))
earlier_or_last (suc r) (suc n) h = ⊎_elim (λ (l : r < n). inl (omega (arith, l))) (λ (e : r ≡ n). inr (ap suc e)) (earlier_or_last r n (omega (arith, h)))

-- the low bits of values that have no others
pub low_fits : (v : Number) (n low mask w : ℕ) → v ≡ Unsigned n → n ≤ low → low < 2 ^ 64 → w ≤ 57 → mask + 1 ≡ 2 ^ w → bit_and low (2 ^ 64 - 1 - mask) ≡ 0 → HasBits w v
low_fits v n low mask w e most below few is beyond =
    let top : 2 ^ w ≤ 2 ^ 57 = pow-le-pow_right {n = 2} (omega arith) {i = w} {j = 57} few in
    let small : mask < 2 ^ 64 = omega (arith, is, top) in
    let none : bit_and (2 ^ 64 - 1 - mask) low ≡ 0 = and_comm (2 ^ 64 - 1 - mask) low ∙ beyond in
    let whole : bit_and (2 ^ 64 - 1 - mask) low + bit_and mask low ≡ low = and-not 64 mask low small below in
    let m : mask ≡ 2 ^ w - 1 = omega (arith, is) in
    let kept : bit_and mask low ≡ low % 2 ^ w = and_comm mask low ∙ ap (bit_and low) m ∙ and_mask low w in
    let under : low % 2 ^ w < 2 ^ w = mod-lt low (pow_pos w) in
    let fits : n < 2 ^ w = omega (arith, whole, none, kept, under, most) in
    subst (HasBits w) (sym e) fits

-- a value without others
pub low_alone : (v : Number) (n : ℕ) → v ≡ Unsigned n → n / 2 ^ 64 ≡ 0 → v ≡ Unsigned (n % 2 ^ 64)
low_alone v n e above = let low : n ≡ n % 2 ^ 64 = omega (arith, above) in e ∙ ap Unsigned low

-- a value has one number
number_in : Number → ℕ
number_in (Unsigned n) = n
number_in (Signed z) = 0

pub same_number : (v : Number) (m n : ℕ) → v ≡ Unsigned m → v ≡ Unsigned n → m ≡ n
unfolding number_in
same_number v m n d e = sym (ap number_in d) ∙ ap number_in e

-- a value more is added, modulo the range of words
pub added : (old x n scale number : ℕ) → number ≡ n → x ≡ (old + number * scale % 2 ^ 64) % 2 ^ 64 → x ≡ (old + n * scale) % 2 ^ 64
added old x n scale number e is = is ∙ ap (λ i. (old + i * scale % 2 ^ 64) % 2 ^ 64) e ∙ omega arith

-- ---- words of groups
-- of the group that has not ended
here_in : (b v w : ℕ) (sizes : List ℕ) (x y : ℕ → ℕ) → x (length sizes) ≡ y (length sizes) + w → with_first b v x (length (with_size b sizes)) ≡ with_first b v y (length (with_size b sizes)) + w
here_in zero v w [] x y e = omega (arith, e)
here_in zero v w (s ∷ sizes) x y e = e
here_in (suc b) v w sizes x y e = e

first_alone : (b v : ℕ) → with_first b v (group_words [] []) 0 ≡ 0 + v
first_alone zero v = omega arith
first_alone (suc b) v = omega arith

pub words_here : (ss : List Step) (ps : List Part) (ns : List Number) (p : Part) (n : ℕ) → AreFitting ss ns → length ps ≡ length ss
    → group_words (ps ++ p ∷ []) (ns ++ Unsigned n ∷ []) (length (group_sizes ps)) ≡ group_words ps ns (length (group_sizes ps)) + n * p.scale
words_here [] [] [] p n h l = first_alone p.bytes (n * p.scale)
words_here [] [] (m ∷ ns) p n h l = absurd h
words_here [] (q ∷ ps) ns p n h l = absurd (omega (arith, l))
words_here (s ∷ ss) [] ns p n h l = absurd (omega (arith, l))
words_here (s ∷ ss) (q ∷ ps) [] p n h l = absurd h
words_here (s ∷ ss) (q ∷ ps) (Unsigned m ∷ ns) p n h l =
    here_in q.bytes (m * q.scale) (n * p.scale) (group_sizes ps) (group_words (ps ++ p ∷ []) (ns ++ Unsigned n ∷ [])) (group_words ps ns) (words_here ss ps ns p n h.1 (omega (arith, l)))
words_here (s ∷ ss) (q ∷ ps) (Signed z ∷ ns) p n h l = absurd h.0

-- of any other
other_in : (b v : ℕ) (sizes : List ℕ) (x y : ℕ → ℕ) (k : ℕ) → ((j : ℕ) → (j ≡ length sizes → ⊥) → x j ≡ y j) → (k ≡ length (with_size b sizes) → ⊥) → with_first b v x k ≡ with_first b v y k
other_in zero v sizes x y zero same other = ap (λ i. v + i) (same 0 other)
other_in zero v sizes x y (suc k) same other = same (suc k) other
other_in (suc b) v sizes x y zero same other = refl
other_in (suc b) v sizes x y (suc k) same other = same k (λ e. other (ap suc e))

none_alone : (b v k : ℕ) → (k ≡ 0 → ⊥) → with_first b v (group_words [] []) k ≡ 0
none_alone b v zero other = absurd (other refl)
none_alone zero v (suc k) other = refl
none_alone (suc b) v (suc k) other = refl

pub words_other : (ss : List Step) (ps : List Part) (ns : List Number) (p : Part) (n k : ℕ) → AreFitting ss ns → length ps ≡ length ss → (k ≡ length (group_sizes ps) → ⊥)
    → group_words (ps ++ p ∷ []) (ns ++ Unsigned n ∷ []) k ≡ group_words ps ns k
words_other [] [] [] p n k h l other = none_alone p.bytes (n * p.scale) k other
words_other [] [] (m ∷ ns) p n k h l other = absurd h
words_other [] (q ∷ ps) ns p n k h l other = absurd (omega (arith, l))
words_other (s ∷ ss) [] ns p n k h l other = absurd (omega (arith, l))
words_other (s ∷ ss) (q ∷ ps) [] p n k h l other = absurd h
words_other (s ∷ ss) (q ∷ ps) (Unsigned m ∷ ns) p n k h l other =
    other_in q.bytes (m * q.scale) (group_sizes ps) (group_words (ps ++ p ∷ []) (ns ++ Unsigned n ∷ [])) (group_words ps ns) k
    (λ j o. words_other ss ps ns p n j h.1 (omega (arith, l)) o) other
words_other (s ∷ ss) (q ∷ ps) (Signed z ∷ ns) p n k h l other = absurd h.0

-- ---- sizes of groups
with_more : (b : ℕ) (sizes more : List ℕ) → with_size b (sizes ++ more) ≡ with_size b sizes ++ more
with_more zero sizes more = refl
with_more (suc b) sizes more = refl

sizes_more : (ps : List Part) (p : Part) → group_sizes (ps ++ p ∷ []) ≡ group_sizes ps ++ with_size p.bytes []
sizes_more [] p = refl
sizes_more (q ∷ ps) p = ap (with_size q.bytes) (sizes_more ps p) ∙ with_more q.bytes (group_sizes ps) (with_size p.bytes [])

-- as many, or one more
sizes_count : (ps : List Part) (p : Part) → length (group_sizes (ps ++ p ∷ [])) ≡ length (group_sizes ps) + length (with_size p.bytes [])
sizes_count ps p = ap length (sizes_more ps p) ∙ length-append (group_sizes ps) (with_size p.bytes [])

one_size : (b : ℕ) → 0 < b → length (with_size b []) ≡ 1
one_size zero h = absurd (omega (arith, h))
one_size (suc b) h = refl

no_size : (b : ℕ) → b ≡ 0 → length (with_size b []) ≡ 0
no_size zero h = refl
no_size (suc b) h = absurd (omega (arith, h))

pub sizes_push : (ps : List Part) (i : ℕ) (e : Part) → i < length ps → 0 < (get_or ps i e).bytes → group_sizes (take i ps) ++ (get_or ps i e).bytes ∷ [] ≡ group_sizes (take (i + 1) ps)
sizes_push ps i e inside some =
    ap (λ x. group_sizes (take i ps) ++ x) (sym (alone (get_or ps i e).bytes some)) ∙ sym (sizes_more (take i ps) (get_or ps i e)) ∙ ap group_sizes (sym (take_more ps i e inside))
  where
    alone : (b : ℕ) → 0 < b → with_size b [] ≡ b ∷ []
    alone zero h = absurd (omega (arith, h))
    alone (suc b) h = refl

pub sizes_skip : (ps : List Part) (i : ℕ) (e : Part) → i < length ps → (get_or ps i e).bytes ≡ 0 → group_sizes (take i ps) ≡ group_sizes (take (i + 1) ps)
sizes_skip ps i e inside none =
    sym (append-nil (group_sizes (take i ps))) ∙ ap (λ b. group_sizes (take i ps) ++ with_size b []) (sym none) ∙ sym (sizes_more (take i ps) (get_or ps i e)) ∙ ap group_sizes (sym (take_more ps i e inside))

-- the first word of the group after a part
pub first_after : (ps : List Part) (i count first : ℕ) (e : Part) → i < length ps → 0 < (get_or ps i e).bytes → first ≡ length (group_sizes (take i ps)) * count → first + count ≡ length (group_sizes (take (i + 1) ps)) * count
first_after ps i count first e inside some at =
    let more : length (group_sizes (take (i + 1) ps)) ≡ length (group_sizes (take i ps)) + 1 =
    ap (λ x. length (group_sizes x)) (take_more ps i e inside) ∙ sizes_count (take i ps) (get_or ps i e) ∙ ap (λ n. length (group_sizes (take i ps)) + n) (one_size (get_or ps i e).bytes some) in
    let sum : (length (group_sizes (take i ps)) + 1) * count ≡ length (group_sizes (take i ps)) * count + count = grind arith in
    ap (λ n. n + count) at ∙ sym sum ∙ ap (λ n. n * count) (sym more)

pub first_same : (ps : List Part) (i count first : ℕ) (e : Part) → i < length ps → (get_or ps i e).bytes ≡ 0 → first ≡ length (group_sizes (take i ps)) * count → first ≡ length (group_sizes (take (i + 1) ps)) * count
first_same ps i count first e inside none at =
    let same : length (group_sizes (take (i + 1) ps)) ≡ length (group_sizes (take i ps)) + 0 =
    ap (λ x. length (group_sizes x)) (take_more ps i e inside) ∙ sizes_count (take i ps) (get_or ps i e) ∙ ap (λ n. length (group_sizes (take i ps)) + n) (no_size (get_or ps i e).bytes none) in
    at ∙ ap (λ n. n * count) (omega (arith, same))

-- the bits of groups are those of the steps
pub sizes_all : (held : ℕ) (ss : List Step) (ps : List Part) → AreParts held ss ps 0 → 8 * all_sizes (group_sizes ps) ≡ held + widths ss
sizes_all held [] [] h = omega (arith, h)
sizes_all held [] (p ∷ ps) h = absurd h
sizes_all held (s ∷ ss) [] h = absurd h
sizes_all held (s ∷ ss) (p ∷ ps) h = in_part p.bytes h.0.bytes (sizes_all (held_after p.bytes (held + s.width)) ss ps h.1)
  where
    in_part : (b : ℕ) → (b ≡ 0) ⊎ (8 * b ≡ held + s.width) → 8 * all_sizes (group_sizes ps) ≡ held_after b (held + s.width) + widths ss → 8 * all_sizes (with_size b (group_sizes ps)) ≡ held + (s.width + widths ss)
    in_part zero whole others = omega (arith, others)
    in_part (suc b) whole others = omega (arith, others, whole)

-- each has at most eight bytes
few_more : (b : ℕ) (bs : List ℕ) → b ≤ 8 → All (λ n. n ≤ 8) bs → All (λ n. n ≤ 8) (b ∷ bs)
few_more b bs h hs zero d l = h
few_more b bs h hs (suc k) d l = hs k d (omega (arith, l))

pub sizes_few : (held : ℕ) (ss : List Step) (ps : List Part) → AreParts held ss ps 0 → All (λ n. n ≤ 8) (group_sizes ps)
sizes_few held [] [] h = λ k d l. absurd (omega (arith, l))
sizes_few held [] (p ∷ ps) h = absurd h
sizes_few held (s ∷ ss) [] h = absurd h
sizes_few held (s ∷ ss) (p ∷ ps) h = in_part p.bytes h.0.bytes (sizes_few (held_after p.bytes (held + s.width)) ss ps h.1)
  where
    in_part : (b : ℕ) → (b ≡ 0) ⊎ (8 * b ≡ held + s.width) → All (λ n. n ≤ 8) (group_sizes ps) → All (λ n. n ≤ 8) (with_size b (group_sizes ps))
    in_part zero whole others = others
    in_part (suc b) whole others = let few = h.0.few in few_more (suc b) (group_sizes ps) (omega (arith, few, whole)) others

-- ---- groups that are still to end
some_group : (held : ℕ) (ss : List Step) (ps : List Part) → AreParts held ss ps 0 → (0 < held) ⊎ (0 < length ps) → 0 < length (group_sizes ps)
some_group held [] [] h some = absurd (omega (arith, h, some))
some_group held [] (p ∷ ps) h some = absurd h
some_group held (s ∷ ss) [] h some = absurd h
some_group held (s ∷ ss) (p ∷ ps) h some = in_part p.bytes (some_group (held_after p.bytes (held + s.width)) ss ps h.1)
  where
    in_part : (b : ℕ) → ((0 < held_after b (held + s.width)) ⊎ (0 < length ps) → 0 < length (group_sizes ps)) → 0 < length (with_size b (group_sizes ps))
    in_part zero others = others (inl h.0.some)
    in_part (suc b) others = omega arith

pub group_ahead : (held : ℕ) (ss : List Step) (ps : List Part) (i : ℕ) → AreParts held ss ps 0 → i < length ps → length (group_sizes (take i ps)) < length (group_sizes ps)
group_ahead held ss [] i h l = absurd (omega (arith, l))
group_ahead held [] (p ∷ ps) i h l = absurd h
group_ahead held (s ∷ ss) (p ∷ ps) zero h l = some_group held (s ∷ ss) (p ∷ ps) h (inr (omega arith))
group_ahead held (s ∷ ss) (p ∷ ps) (suc i) h l = in_part p.bytes (group_ahead (held_after p.bytes (held + s.width)) ss ps i h.1 (omega (arith, l)))
  where
    in_part : (b : ℕ) → length (group_sizes (take i ps)) < length (group_sizes ps) → length (with_size b (group_sizes (take i ps))) < length (with_size b (group_sizes ps))
    in_part zero others = others
    in_part (suc b) others = omega (arith, others)

-- ---- the bits of words
pub word_bits_same : (bs : List ℕ) (x y : ℕ → ℕ) → ((k : ℕ) → x k ≡ y k) → word_bits bs x ≡ word_bits bs y
word_bits_same [] x y same = refl
word_bits_same (b ∷ bs) x y same = ap₂ (λ w s. bits_in (take b (to_be_bytes w64 w)) ++ s) (same 0) (word_bits_same bs (λ k. x (suc k)) (λ k. y (suc k)) (λ k. same (suc k)))

-- one word more
pub word_bits_more : (bs : List ℕ) (b : ℕ) (x : ℕ → ℕ) → word_bits (bs ++ b ∷ []) x ≡ word_bits bs x ++ bits_in (take b (to_be_bytes w64 (x (length bs))))
word_bits_more [] b x = append-nil (bits_in (take b (to_be_bytes w64 (x 0))))
word_bits_more (c ∷ bs) b x =
    let first : List Bool = bits_in (take c (to_be_bytes w64 (x 0))) in
    ap (λ s. first ++ s) (word_bits_more bs b (λ k. x (suc k))) ∙ sym (append_assoc first (word_bits bs (λ k. x (suc k))) (bits_in (take b (to_be_bytes w64 (x (suc (length bs)))))))

-- the words of a record have the bits of its values
whole_word : (held word bytes : ℕ) → 0 < bytes → held ≤ 64 → 8 * bytes ≡ held → word % 2 ^ (64 - held) ≡ 0 → bits_in (take bytes (to_be_bytes w64 word)) ≡ bits_of held (word / 2 ^ (64 - held))
whole_word held word bytes some few whole none =
    let here : take (0 + bytes) (to_be_bytes w64 word) ≡ take bytes (to_be_bytes w64 word) = ap (λ i. take i (to_be_bytes w64 word)) (omega arith) in
    ap bits_in (sym here) ∙ sym (append-nil (bits_in (take (0 + bytes) (to_be_bytes w64 word)))) ∙ ap (λ s. bits_in (take (0 + bytes) (to_be_bytes w64 word)) ++ s) (sym (no_held 0))
    ∙ group_stored [] (to_be_bytes w64 word) 0 bytes held word 0 some few whole none here

no_first : (x : ℕ → ℕ) (k : ℕ) → x k % 2 ^ 64 ≡ with_first 0 0 x k % 2 ^ 64
no_first x zero = ap (λ i. i % 2 ^ 64) (omega arith)
no_first x (suc k) = refl

words_row : (held word : ℕ) (ss : List Step) (ps : List Part) (ns : List Number) → AreParts held ss ps 0 → AreFitting ss ns → held ≤ 64 → word < 2 ^ 64 → word % 2 ^ (64 - held) ≡ 0
    → word_bits (group_sizes ps) (λ k. with_first 0 word (group_words ps ns) k % 2 ^ 64) ≡ bits_of held (word / 2 ^ (64 - held)) ++ row_bits ss ns
words_row held word [] [] [] h fits few below low =
    let v : ℕ = word / 2 ^ (64 - held) in
    sym (ap (λ s. s ++ []) (no_held v)) ∙ ap (λ n. bits_of n v ++ []) (sym h)
words_row held word [] [] (n ∷ ns) h fits few below low = absurd fits
words_row held word [] (p ∷ ps) ns h fits few below low = absurd h
words_row held word (s ∷ ss) [] ns h fits few below low = absurd h
words_row held word (s ∷ ss) (p ∷ ps) [] h fits few below low = absurd fits
words_row held word (s ∷ ss) (p ∷ ps) (Signed z ∷ ns) h fits few below low = absurd fits.0
words_row held word (s ∷ ss) (p ∷ ps) (Unsigned n ∷ ns) h fits few below low =
    in_part p.bytes h.0.bytes (λ w few below low. words_row (held_after p.bytes (held + s.width)) w ss ps ns h.1 fits.1 few below low)
  where
    next : ℕ
    next = word + n * p.scale

    words : ℕ → ℕ
    words = group_words ps ns

    low_next : next % 2 ^ (64 - (held + s.width)) ≡ 0
    low_next = word_low word held s.width n p.scale h.0.few low h.0.scale

    below_next : next < 2 ^ 64
    below_next = word_below word held s.width n p.scale h.0.few below low h.0.scale fits.0

    held_next : bits_of (held + s.width) (next / 2 ^ (64 - (held + s.width))) ++ row_bits ss ns ≡ bits_of held (word / 2 ^ (64 - held)) ++ (bits_of s.width n ++ row_bits ss ns)
    held_next = ap (λ x. x ++ row_bits ss ns) (held_value word held s.width n p.scale h.0.few low h.0.scale fits.0) ∙ append_assoc (bits_of held (word / 2 ^ (64 - held))) (bits_of s.width n) (row_bits ss ns)

    sums : (k : ℕ) → with_first 0 word (with_first 0 (n * p.scale) words) k % 2 ^ 64 ≡ with_first 0 next words k % 2 ^ 64
    sums zero = ap (λ x. x % 2 ^ 64) (omega arith)
    sums (suc k) = refl

    in_part : (b : ℕ) → (b ≡ 0) ⊎ (8 * b ≡ held + s.width)
        → ((w : ℕ) → held_after b (held + s.width) ≤ 64 → w < 2 ^ 64 → w % 2 ^ (64 - held_after b (held + s.width)) ≡ 0
        → word_bits (group_sizes ps) (λ k. with_first 0 w (group_words ps ns) k % 2 ^ 64) ≡ bits_of (held_after b (held + s.width)) (w / 2 ^ (64 - held_after b (held + s.width))) ++ row_bits ss ns)
        → word_bits (with_size b (group_sizes ps)) (λ k. with_first 0 word (with_first b (n * p.scale) (group_words ps ns)) k % 2 ^ 64) ≡ bits_of held (word / 2 ^ (64 - held)) ++ (bits_of s.width n ++ row_bits ss ns)
    in_part zero whole others =
        word_bits_same (group_sizes ps) (λ k. with_first 0 word (with_first 0 (n * p.scale) words) k % 2 ^ 64) (λ k. with_first 0 next words k % 2 ^ 64) sums
        ∙ others next h.0.few below_next low_next ∙ held_next
    in_part (suc b) whole others =
        let first : (word + n * p.scale) % 2 ^ 64 ≡ next = mod-eq_of_lt below_next in
        let rest : word_bits (group_sizes ps) (λ k. words k % 2 ^ 64) ≡ row_bits ss ns =
        word_bits_same (group_sizes ps) (λ k. words k % 2 ^ 64) (λ k. with_first 0 0 words k % 2 ^ 64) (no_first words)
        ∙ others 0 (omega arith) (omega arith) (omega arith) ∙ ap (λ x. x ++ row_bits ss ns) (no_held _) in
        ap₂ (λ w x. bits_in (take (suc b) (to_be_bytes w64 w)) ++ x) first rest
        ∙ ap (λ x. x ++ row_bits ss ns) (whole_word (held + s.width) next (suc b) (omega arith) h.0.few (omega (arith, whole)) low_next)
        ∙ held_next

pub row_words : (ss : List Step) (ps : List Part) (ns : List Number) → AreParts 0 ss ps 0 → AreFitting ss ns → word_bits (group_sizes ps) (λ k. group_words ps ns k % 2 ^ 64) ≡ row_bits ss ns
row_words ss ps ns h fits =
    word_bits_same (group_sizes ps) (λ k. group_words ps ns k % 2 ^ 64) (λ k. with_first 0 0 (group_words ps ns) k % 2 ^ 64) (no_first (group_words ps ns))
    ∙ words_row 0 0 ss ps ns h fits (omega arith) (omega arith) (omega arith) ∙ ap (λ x. x ++ row_bits ss ns) (no_held _)

-- ---- records
pub rows_words : (count i : ℕ) (ss : List Step) (ps : List Part) (ns : List Number) (x : ℕ → ℕ → ℕ) → i ≤ count → AreParts 0 ss ps 0 → length ns ≡ count * length ss → AreFitting (turns count ss) ns
    → ((r k : ℕ) → r < count → x r k ≡ group_words ps (take (length ss) (drop (r * length ss) ns)) k % 2 ^ 64)
    → words_bits i (group_sizes ps) x ≡ row_bits (turns i ss) (take (i * length ss) ns)
rows_words count zero ss ps ns x inside h long fits is = let none : 0 * length ss ≡ 0 = omega arith in ap (λ n. row_bits [] (take n ns)) (sym none)
rows_words count (suc i) ss ps ns x inside h long fits is =
    let place : ℕ = i * length ss in
    let ms : List Number = take (length ss) (drop (i * length ss) ns) in
    let fitting : AreFitting ss ms = one_fits ss count i (i * length ss) ns (omega (arith, inside)) refl fits in
    let here : word_bits (group_sizes ps) (x i) ≡ row_bits ss ms = word_bits_same (group_sizes ps) (x i) (λ k. group_words ps ms k % 2 ^ 64) (λ k. is i k (omega (arith, inside))) ∙ row_words ss ps ms h fitting in
    let next : suc i * length ss ≡ i * length ss + length ss = omega arith in
    let more : i + 1 ≡ suc i = omega arith in
    let enough : i * length ss + length ss ≤ length ns = omega (arith, long, room i count (length ss) (omega (arith, inside))) in
    ap₂ (λ a b. a ++ b) (rows_words count i ss ps ns x (omega (arith, inside)) h long fits is) here
    ∙ sym (record_more ss i (i * length ss) (i * length ss + length ss) ns ms refl refl enough refl)
    ∙ ap₂ (λ j n. row_bits (turns j ss) (take n ns)) more (sym next)

-- records that all fit
pub records_fit : (i count : ℕ) (ss : List Step) (ns : List Number) → i ≤ count → length ns ≡ count * length ss → ((r : ℕ) → r < count → AreFitting ss (take (length ss) (drop (r * length ss) ns)))
    → AreFitting (turns i ss) (take (i * length ss) ns)
records_fit zero count ss ns inside long each = let none : 0 * length ss ≡ 0 = omega arith in subst (λ n. AreFitting [] (take n ns)) (sym none) tt
records_fit (suc i) count ss ns inside long each =
    let next : suc i * length ss ≡ i * length ss + length ss = omega arith in
    let more : i + 1 ≡ suc i = omega arith in
    let enough : i * length ss + length ss ≤ length ns = omega (arith, long, room i count (length ss) (omega (arith, inside))) in
    subst (λ j. AreFitting (turns j ss) (take (suc i * length ss) ns)) more
    (subst (λ n. AreFitting (turns (i + 1) ss) (take n ns)) (sym next)
    (record_fits ss i (i * length ss) (i * length ss + length ss) ns (take (length ss) (drop (i * length ss) ns)) refl enough refl (records_fit i count ss ns (omega (arith, inside)) long each) (each i (omega (arith, inside)))))

-- ---- fields of records
unsigned_in : (w : ℕ) (v : Number) → HasBits w v → (n : ℕ) × (v ≡ Unsigned n) × (n < 2 ^ w)
unsigned_in w (Unsigned n) h = (n, refl, h)
unsigned_in w (Signed z) h = absurd h

-- a record is as long as its steps
pub record_long : (ns : List Number) (count f r : ℕ) → r < count → length ns ≡ count * f → length (take f (drop (r * f) ns)) ≡ f
record_long ns count f r below long =
    let most = room r count f below in
    let left : length (drop (r * f) ns) ≡ length ns - r * f = length-drop (r * f) ns in
    length-take-le f (drop (r * f) ns) (omega (arith, most, left, long))

-- a value of a record, by its place among all
pub value_in : (ns : List Number) (f i r : ℕ) (d : Number) → i < f → get_or (drop i ns) (r * f) d ≡ get_or (take f (drop (r * f) ns)) i d
value_in ns f i r d inside =
    let far : i + r * f ≡ r * f + i = omega arith in
    get_or-drop i ns (r * f) d ∙ ap (λ k. get_or ns k d) far ∙ sym (get_or-drop (r * f) ns i d) ∙ sym (get_or-take f (drop (r * f) ns) i d inside)

below_or_not : (k g : ℕ) → (k < g) ⊎ (g ≤ k)
below_or_not k zero = inr (omega arith)
below_or_not zero (suc g) = inl (omega arith)
below_or_not (suc k) (suc g) = ⊎_elim (λ (l : k < g). inl (omega (arith, l))) (λ (m : g ≤ k). inr (omega (arith, m))) (below_or_not k g)

added_words : (x v : ℕ) → (x % 2 ^ 64 + v) % 2 ^ 64 ≡ (x + v) % 2 ^ 64
added_words x v = omega arith

-- the words with the values of one field more
pub fields_next : (count : ℕ) (ss : List Step) (ps : List Part) (ns : List Number) (i first : ℕ) (d : Step) (e : Part) (old new : List ℕ) → i < length ss → length ps ≡ length ss → length ns ≡ count * length ss
    → first ≡ length (group_sizes (take i ps)) * count
    → ((r : ℕ) → r < count → AreFitting (take i ss) (take i (take (length ss) (drop (r * length ss) ns))))
    → ((r : ℕ) → r < count → HasBits (get_or ss i d).width (get_or (take (length ss) (drop (r * length ss) ns)) i (Unsigned 0)))
    → ((r n : ℕ) → r < count → get_or (drop i ns) (r * length ss) (Unsigned 0) ≡ Unsigned n → get_or new (first + r) 0 ≡ (get_or old (first + r) 0 + n * (get_or ps i e).scale) % 2 ^ 64)
    → ((j : ℕ) → (j < first) ⊎ (first + count ≤ j) → get_or new j 0 ≡ get_or old j 0)
    → ((r k : ℕ) → r < count → get_or old (k * count + r) 0 ≡ group_words (take i ps) (take i (take (length ss) (drop (r * length ss) ns))) k % 2 ^ 64)
    → (r k : ℕ) → r < count → get_or new (k * count + r) 0 ≡ group_words (take (i + 1) ps) (take (i + 1) (take (length ss) (drop (r * length ss) ns))) k % 2 ^ 64
fields_next count ss ps ns i first d e old new inside long all at fits bits words others before r k below =
    let ms : List Number = take (length ss) (drop (r * length ss) ns) in
    let value = unsigned_in (get_or ss i d).width (get_or ms i (Unsigned 0)) (bits r below) in
    let n : ℕ = value.0 in
    let many : length ms ≡ length ss = record_long ns count (length ss) r below all in
    let front : take (i + 1) ms ≡ take i ms ++ Unsigned n ∷ [] = take_more ms i (Unsigned 0) (omega (arith, many, inside)) ∙ ap (λ v. take i ms ++ v ∷ []) (value.1) in
    let parts : take (i + 1) ps ≡ take i ps ++ get_or ps i e ∷ [] = take_more ps i e (omega (arith, long, inside)) in
    let held : AreFitting (take i ss) (take i ms) = fits r below in
    let same : length (take i ps) ≡ length (take i ss) = length-take-le i ps (omega (arith, long, inside)) ∙ sym (length-take-le i ss (omega (arith, inside))) in
    let g : ℕ = length (group_sizes (take i ps)) in
    let other : ((j : ℕ) → j ≡ k * count + r → (j < first) ⊎ (first + count ≤ j)) → (k ≡ g → ⊥) → get_or new (k * count + r) 0 ≡ group_words (take i ps ++ get_or ps i e ∷ []) (take i ms ++ Unsigned n ∷ []) k % 2 ^ 64 =
    λ apart no. others (k * count + r) (apart (k * count + r) refl) ∙ before r k below
    ∙ ap (λ x. x % 2 ^ 64) (sym (words_other (take i ss) (take i ps) (take i ms) (get_or ps i e) n k held same no)) in
    rw (front, parts) (
    ⊎_elim
    (λ (l : k < g). other (λ j q. let before_it = room k g count l in inl (omega (arith, q, at, before_it, below))) (λ q. absurd (omega (arith, q, l))))
    (λ (m : g ≤ k).
    ⊎_elim
    (λ (l : g < k). other (λ j q. let after_it = room g k count l in inr (omega (arith, q, at, after_it))) (λ q. absurd (omega (arith, q, l))))
    (λ (o : k ≤ g).
    let here : k ≡ g = omega (arith, m, o) in
    let place : k * count + r ≡ first + r = ap (λ j. j * count + r) here ∙ ap (λ j. j + r) (sym at) in
    let sum = words r n below (value_in ns (length ss) i r (Unsigned 0) inside ∙ value.1) in
    let old_word : get_or old (first + r) 0 ≡ group_words (take i ps) (take i ms) k % 2 ^ 64 = ap (λ j. get_or old j 0) (sym place) ∙ before r k below in
    let v : ℕ = n * (get_or ps i e).scale in
    ap (λ j. get_or new j 0) place ∙ sum ∙ ap (λ x. (x + v) % 2 ^ 64) old_word ∙ added_words (group_words (take i ps) (take i ms) k) v
    ∙ ap (λ x. x % 2 ^ 64)
    (ap (λ j. group_words (take i ps) (take i ms) j + v) here ∙ sym (words_here (take i ss) (take i ps) (take i ms) (get_or ps i e) n held same)
    ∙ ap (λ j. group_words (take i ps ++ get_or ps i e ∷ []) (take i ms ++ Unsigned n ∷ []) j) (sym here)))
    (below_or_not g k))
    (below_or_not k g)
    )

-- ---- what is stored
pub sizes_next : (bs : List ℕ) (i d : ℕ) → i < length bs → all_sizes (take (i + 1) bs) ≡ all_sizes (take i bs) + get_or bs i d
sizes_next [] i d l = absurd (omega (arith, l))
sizes_next (b ∷ bs) zero d l = omega arith
sizes_next (b ∷ bs) (suc i) d l =
    let more : suc i + 1 ≡ suc (i + 1) = omega arith in
    let others = sizes_next bs i d (omega (arith, l)) in
    ap (λ k. all_sizes (take k (b ∷ bs))) more ∙ omega (arith, others)

pub sizes_front : (bs : List ℕ) (i : ℕ) → all_sizes (take i bs) ≤ all_sizes bs
sizes_front bs zero = omega arith
sizes_front [] (suc i) = omega arith
sizes_front (b ∷ bs) (suc i) = let others = sizes_front bs i in omega (arith, others)

pub word_stored : (old new : List ℕ) (place size i : ℕ) (bs : List ℕ) (x : ℕ → ℕ) (first : List Bool) → i < length bs → size ≡ get_or bs i 0
    → take (place + size) new ≡ take place old ++ take size (to_be_bytes w64 (x i)) → bits_in (take place old) ≡ first ++ word_bits (take i bs) x
    → bits_in (take (place + size) new) ≡ first ++ word_bits (take (i + 1) bs) x
word_stored old new place size i bs x first inside is front before =
    let next : List ℕ = take size (to_be_bytes w64 (x i)) in
    let long : length (take i bs) ≡ i = length-take-le i bs (omega (arith, inside)) in
    ap bits_in front ∙ flat_map-append byte_bits (take place old) next ∙ ap (λ s. s ++ bits_in next) before
    ∙ append_assoc first (word_bits (take i bs) x) (bits_in next)
    ∙ ap (λ s. first ++ s)
    (ap₂ (λ n k. word_bits (take i bs) x ++ bits_in (take n (to_be_bytes w64 (x k)))) is (sym long)
    ∙ sym (word_bits_more (take i bs) (get_or bs i 0) x) ∙ ap (λ y. word_bits y x) (sym (take_more bs i 0 inside)))

-- words of which none is written
pub no_words : (n j : ℕ) → get_or (replicate {A = ℕ} n 0) j 0 ≡ 0
no_words zero j = refl
no_words (suc n) zero = refl
no_words (suc n) (suc j) = no_words n j

-- the bytes of records
pub records_room : (count : ℕ) (ss : List Step) (ps : List Part) (room : ℕ) → AreParts 0 ss ps 0 → 8 * room ≡ count * widths ss → room ≡ count * all_sizes (group_sizes ps)
records_room count ss ps room h whole =
    let one : widths ss ≡ 8 * all_sizes (group_sizes ps) = let all = sizes_all 0 ss ps h in omega (arith, all) in
    let turned : count * (8 * all_sizes (group_sizes ps)) ≡ 8 * (count * all_sizes (group_sizes ps)) = grind arith in
    let all : 8 * room ≡ 8 * (count * all_sizes (group_sizes ps)) = whole ∙ ap (λ w. count * w) one ∙ turned in
    omega (arith, all)
