-- Numbers that are joined to words of whole bytes, and the parts of steps.
use Rattle.std.proofs.Common.{◌≡◌, ℕ, zero, suc, ◌+◌, ◌*◌, ◌-◌, ◌/◌, ◌%◌, ◌^◌, ◌<◌, ◌≤◌, List, [], ◌∷◌, ◌++◌, length, take, get_or, refl, ap, ap₂, sym, ◌∙◌, subst, arith}
use Rattle.std.proofs.lemmas.List.{take_more}
use Rattle.std.proofs.lemmas.Nat.{pow-add, pow_pos, shl-shr, shr_split, div_below, mul-add-lt, mod-mul-add}
use Rattle.std.specs.Int.{w64, to_be_bytes}
use Rattle.deku_bits.specs.Bits.{bits_of, bits_in}
use Rattle.deku_bits.proofs.Packed.{bits_of-join}
use Rattle.deku_plan.specs.declared.step.Step.{Step}
use Rattle.deku_plan.specs.declared.part.Part.{Part}
use Rattle.deku_plan.specs.Joining.{IsPart, held_after, AreParts}
use Rattle.deku_plan.proofs.Laying.{stored_whole}

-- ---- a value after the bits of a word
-- a word, from its high bits
pub high_word : (word k : ℕ) → word % 2 ^ k ≡ 0 → word ≡ word / 2 ^ k * 2 ^ k
high_word word k none = let h = shr_split word k in omega (arith, h, none)

spread : (v p n q : ℕ) → v * (p * q) + n * q ≡ (v * p + n) * q
spread v p n q = grind arith

pub joined_word : (word held w n scale : ℕ) → held + w ≤ 64 → word % 2 ^ (64 - held) ≡ 0 → scale ≡ 2 ^ (64 - (held + w))
    → word + n * scale ≡ (word / 2 ^ (64 - held) * 2 ^ w + n) * 2 ^ (64 - (held + w))
joined_word word held w n scale few none is =
    let v : ℕ = word / 2 ^ (64 - held) in
    let k : ℕ = 64 - (held + w) in
    let wide : 64 - held ≡ w + k = omega (arith, few) in
    let power : 2 ^ (64 - held) ≡ 2 ^ w * 2 ^ k = ap (λ i. 2 ^ i) wide ∙ pow-add 2 w k in
    let whole : word ≡ v * (2 ^ w * 2 ^ k) = high_word word (64 - held) none ∙ ap (λ m. v * m) power in
    ap₂ (λ a b. a + b) whole (ap (λ m. n * m) is) ∙ spread v (2 ^ w) n (2 ^ k)

-- the number that is held is one of as many bits
pub number_below : (word held : ℕ) → held ≤ 64 → word < 2 ^ 64 → word / 2 ^ (64 - held) < 2 ^ held
number_below word held few below =
    let wide : held + (64 - held) ≡ 64 = omega (arith, few) in
    let power : 2 ^ 64 ≡ 2 ^ held * 2 ^ (64 - held) = ap (λ i. 2 ^ i) (sym wide) ∙ pow-add 2 held (64 - held) in
    div_below word (2 ^ (64 - held)) (2 ^ held) (pow_pos (64 - held)) (omega (arith, below, power))

times_below : (m a k : ℕ) → m < 2 ^ a → a + k ≡ 64 → m * 2 ^ k < 2 ^ 64
times_below m a k h wide =
    let power : 2 ^ 64 ≡ 2 ^ a * 2 ^ k = ap (λ i. 2 ^ i) (sym wide) ∙ pow-add 2 a k in
    let turned : 2 ^ k * 2 ^ a ≡ 2 ^ a * 2 ^ k = grind arith in
    let most = mul-add-lt m (2 ^ k) 0 (2 ^ a) h (pow_pos k) in
    omega (arith, most, power, turned)

pub word_below : (word held w n scale : ℕ) → held + w ≤ 64 → word < 2 ^ 64 → word % 2 ^ (64 - held) ≡ 0 → scale ≡ 2 ^ (64 - (held + w)) → n < 2 ^ w
    → word + n * scale < 2 ^ 64
word_below word held w n scale few below none is fits =
    let v : ℕ = word / 2 ^ (64 - held) in
    let k : ℕ = 64 - (held + w) in
    let high : v < 2 ^ held = number_below word held (omega (arith, few)) below in
    let power : 2 ^ (held + w) ≡ 2 ^ held * 2 ^ w = pow-add 2 held w in
    let turned : 2 ^ w * 2 ^ held ≡ 2 ^ held * 2 ^ w = grind arith in
    let most = mul-add-lt v (2 ^ w) n (2 ^ held) high fits in
    let number : v * 2 ^ w + n < 2 ^ (held + w) = omega (arith, most, power, turned) in
    let wide : (held + w) + k ≡ 64 = omega (arith, few) in
    let all = times_below (v * 2 ^ w + n) (held + w) k number wide in
    let same = joined_word word held w n scale few none is in
    omega (arith, all, same)

pub word_low : (word held w n scale : ℕ) → held + w ≤ 64 → word % 2 ^ (64 - held) ≡ 0 → scale ≡ 2 ^ (64 - (held + w)) → (word + n * scale) % 2 ^ (64 - (held + w)) ≡ 0
word_low word held w n scale few none is =
    let m : ℕ = word / 2 ^ (64 - held) * 2 ^ w + n in
    let k : ℕ = 64 - (held + w) in
    let zero_more : m * 2 ^ k ≡ m * 2 ^ k + 0 = omega arith in
    ap (λ x. x % 2 ^ k) (joined_word word held w n scale few none is ∙ zero_more) ∙ mod-mul-add m (2 ^ k) 0 (pow_pos k)

pub word_high : (word held w n scale : ℕ) → held + w ≤ 64 → word % 2 ^ (64 - held) ≡ 0 → scale ≡ 2 ^ (64 - (held + w)) → (word + n * scale) / 2 ^ (64 - (held + w)) ≡ word / 2 ^ (64 - held) * 2 ^ w + n
word_high word held w n scale few none is =
    let m : ℕ = word / 2 ^ (64 - held) * 2 ^ w + n in
    let k : ℕ = 64 - (held + w) in
    ap (λ x. x / 2 ^ k) (joined_word word held w n scale few none is) ∙ shl-shr m k

-- the bits of a word with a value in it
pub held_value : (word held w n scale : ℕ) → held + w ≤ 64 → word % 2 ^ (64 - held) ≡ 0 → scale ≡ 2 ^ (64 - (held + w)) → n < 2 ^ w
    → bits_of (held + w) ((word + n * scale) / 2 ^ (64 - (held + w))) ≡ bits_of held (word / 2 ^ (64 - held)) ++ bits_of w n
held_value word held w n scale few none is fits =
    ap (bits_of (held + w)) (word_high word held w n scale few none is) ∙ sym (bits_of-join held w (word / 2 ^ (64 - held)) n fits)

-- ---- a word of whole bytes
pub no_held : (v : ℕ) → bits_of 0 v ≡ []
unfolding bits_of
no_held v = refl

-- a group that is stored
pub group_stored : (old new : List ℕ) (place bytes held word v : ℕ) → 0 < bytes → held ≤ 64 → 8 * bytes ≡ held → word % 2 ^ (64 - held) ≡ 0
    → take (place + bytes) new ≡ take place old ++ take bytes (to_be_bytes w64 word)
    → bits_in (take (place + bytes) new) ++ bits_of 0 v ≡ bits_in (take place old) ++ bits_of held (word / 2 ^ (64 - held))
group_stored old new place bytes held word v some few whole none front =
    let number : ℕ = word / 2 ^ (64 - held) in
    let q : held / 8 ≡ bytes = omega (arith, whole) in
    let shown : take (place + held / 8) new ≡ take place old ++ take (held / 8) (to_be_bytes w64 (number * 2 ^ (64 - held))) =
    ap (λ i. take (place + i) new) q ∙ front ∙ ap₂ (λ i x. take place old ++ take i (to_be_bytes w64 x)) (sym q) (high_word word (64 - held) none) in
    ap₂ (λ i s. bits_in (take (place + i) new) ++ s) (sym q) (no_held v ∙ sym (no_held 0))
    ∙ stored_whole old new place held number (omega (arith, some, whole)) few (omega (arith, whole)) shown

-- ---- parts of steps
pub parts_long : (held : ℕ) (ss : List Step) (ps : List Part) (rest : ℕ) → AreParts held ss ps rest → length ps ≡ length ss
parts_long held [] [] rest h = refl
parts_long held [] (p ∷ ps) rest h = absurd h
parts_long held (s ∷ ss) [] rest h = absurd h
parts_long held (s ∷ ss) (p ∷ ps) rest h = ap suc (parts_long (held_after p.bytes (held + s.width)) ss ps rest h.1)

-- one part more
part_push : (held : ℕ) (ss : List Step) (ps : List Part) (rest : ℕ) (s : Step) (p : Part) → AreParts held ss ps rest → IsPart rest s p
    → AreParts held (ss ++ s ∷ []) (ps ++ p ∷ []) (held_after p.bytes (rest + s.width))
part_push held [] [] rest s p h k = (subst (λ n. IsPart n s p) (sym h) k, ap (λ n. held_after p.bytes (n + s.width)) h)
part_push held [] (q ∷ ps) rest s p h k = absurd h
part_push held (t ∷ ss) [] rest s p h k = absurd h
part_push held (t ∷ ss) (q ∷ ps) rest s p h k = (h.0, part_push (held_after q.bytes (held + t.width)) ss ps rest s p h.1 k)

pub parts_more : (ss : List Step) (i : ℕ) (d : Step) (ps : List Part) (rest next : ℕ) (p : Part) → i < length ss → AreParts 0 (take i ss) ps rest → IsPart rest (get_or ss i d) p
    → next ≡ held_after p.bytes (rest + (get_or ss i d).width) → AreParts 0 (take (i + 1) ss) (ps ++ p ∷ []) next
parts_more ss i d ps rest next p l h k is =
    subst (λ n. AreParts 0 (take (i + 1) ss) (ps ++ p ∷ []) n) (sym is)
    (subst (λ x. AreParts 0 x (ps ++ p ∷ []) (held_after p.bytes (rest + (get_or ss i d).width))) (sym (take_more ss i d l)) (part_push 0 (take i ss) ps rest (get_or ss i d) p h k))

-- the part at an index, after those in front of it
pub part_at : (from : ℕ) (ss : List Step) (ps : List Part) (to i held : ℕ) (d : Step) (e : Part) → AreParts from ss ps to → AreParts from (take i ss) (take i ps) held → i < length ss
    → IsPart held (get_or ss i d) (get_or ps i e)
part_at from [] ps to i held d e h k l = absurd (omega (arith, l))
part_at from (s ∷ ss) [] to i held d e h k l = absurd h
part_at from (s ∷ ss) (p ∷ ps) to zero held d e h k l = subst (λ n. IsPart n s p) k h.0
part_at from (s ∷ ss) (p ∷ ps) to (suc i) held d e h k l = part_at (held_after p.bytes (from + s.width)) ss ps to i held d e h.1 k.1 (omega (arith, l))

pub parts_next : (ss : List Step) (ps : List Part) (i held next : ℕ) (d : Step) (e : Part) → i < length ss → i < length ps → AreParts 0 (take i ss) (take i ps) held
    → IsPart held (get_or ss i d) (get_or ps i e) → next ≡ held_after (get_or ps i e).bytes (held + (get_or ss i d).width) → AreParts 0 (take (i + 1) ss) (take (i + 1) ps) next
parts_next ss ps i held next d e l m h k is =
    subst (λ x. AreParts 0 (take (i + 1) ss) x next) (sym (take_more ps i e m)) (parts_more ss i d (take i ps) held next (get_or ps i e) l h k is)

-- how many bits are held after parts
pub parts_end : (from : ℕ) (ss : List Step) (ps : List Part) (a b : ℕ) → AreParts from ss ps a → AreParts from ss ps b → a ≡ b
parts_end from [] [] a b h k = sym h ∙ k
parts_end from [] (p ∷ ps) a b h k = absurd h
parts_end from (s ∷ ss) [] a b h k = absurd h
parts_end from (s ∷ ss) (p ∷ ps) a b h k = parts_end (held_after p.bytes (from + s.width)) ss ps a b h.1 k.1

-- fewer parts than steps
pub too_few : (ss : List Step) → 0 ≡ length ss → AreParts 0 ss [] 0
too_few [] e = refl
too_few (s ∷ ss) e = absurd (omega (arith, e))

abbrev pub no_part : Part
no_part = record { scale = 0; bytes = 0 }

-- no more bits are held than there were
pub held_most : (b n : ℕ) → held_after b n ≤ n
held_most zero n = omega arith
held_most (suc b) n = omega arith
