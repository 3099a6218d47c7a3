-- Words: the numbers of the groups of eight bits, the first the lowest byte.
use Rattle.std.proofs.Common.{◌≡◌, ℕ, zero, suc, ◌+◌, ◌*◌, ◌<◌, ◌≤◌, Bool, List, [], ◌∷◌, ◌++◌, length, map, replicate, All, arith, refl, sym, ap, ap₂, ◌∙◌, ⊎_elim, append-nil, append_assoc}
use Rattle.std.proofs.lemmas.Bool.{cases_lt}
use Rattle.std.proofs.lemmas.List.Elements.{All-head, All-tail}
use Rattle.std.specs.Int.{w128, from_le_bytes}
use Rattle.deku_stream.specs.declared.ctx.Order.{Order}
use Rattle.deku_stream.specs.Bits.{bin, byte_bits, chunks, facing, group_number, little, word_of}
use Rattle.deku_stream.specs.Streams.{flow}
use Rattle.deku_stream.proofs.Binary.{length-facing}
use Rattle.deku_stream.proofs.Bytes.{IsByte}
use Rattle.deku_stream.proofs.Cuts.{length-byte_bits, byte-of}
use Rattle.deku_stream.proofs.Groups.{chunks-full, chunks-short}
use Rattle.deku_stream.proofs.Reading.{facing_nil}

-- ---- the numbers of groups
-- of bits that begin with whole bytes
pub byte_groups : (o : Order) (bytes : List ℕ) (g : List Bool) → All IsByte bytes → map (group_number o) (chunks (flow o bytes ++ g)) ≡ bytes ++ map (group_number o) (chunks g)
byte_groups o [] g h = refl
byte_groups o (b ∷ bytes) g h =
    ap (λ s. map (group_number o) (chunks s)) (append_assoc (facing o (byte_bits b)) (flow o bytes) g)
    ∙ ap (map (group_number o)) (chunks-full (facing o (byte_bits b)) (flow o bytes ++ g) (length-facing o (byte_bits b) ∙ length-byte_bits b))
    ∙ ap₂ (λ x y. x ∷ y) (byte-of o b (All-head IsByte b bytes h)) (byte_groups o bytes g (All-tail IsByte b bytes h))

-- of one group
pub one_group : (o : Order) (g : List Bool) → 0 < length g → length g ≤ 8 → map (group_number o) (chunks g) ≡ group_number o g ∷ []
one_group o g p l = ⊎_elim
    (λ (h : length g < 8). ap (map (group_number o)) (chunks-short g p h))
    (λ (h : 8 ≤ length g). ap (λ s. map (group_number o) (chunks s)) (sym (append-nil g)) ∙ ap (map (group_number o)) (chunks-full g [] (omega arith)))
    (cases_lt (length g) 8)

-- ---- the word of a list
-- one group in front
pub word_of-full : (o : Order) (g t : List Bool) → length g ≡ 8 → word_of o (g ++ t) ≡ group_number o g + 256 * word_of o t
word_of-full o g t l = ap (λ x. little (map (group_number o) x)) (chunks-full g t l)

-- at most one group
pub word_of-short : (o : Order) (t : List Bool) → length t ≤ 8 → word_of o t ≡ group_number o t
word_of-short o [] l = sym (ap bin (facing_nil o))
word_of-short o (b ∷ t) l = ap little (one_group o (b ∷ t) (omega arith) l) ∙ omega arith

-- ---- words of bytes
little_zeros : (m : ℕ) → little (replicate m 0) ≡ 0
little_zeros zero = refl
little_zeros (suc m) = omega (arith, little_zeros m)

-- zeros after bytes count nothing
pub little-filled : (bytes : List ℕ) (m : ℕ) → little (bytes ++ replicate m 0) ≡ little bytes
little-filled [] m = little_zeros m
little-filled (b ∷ bytes) m = ap (λ k. b + 256 * k) (little-filled bytes m)

-- the number of sixteen bytes, the first the lowest
pub little_sixteen : (bytes : List ℕ) → length bytes ≡ 16 → from_le_bytes w128 bytes ≡ little bytes
little_sixteen (a ∷ b ∷ c ∷ d ∷ e ∷ f ∷ g ∷ h ∷ i ∷ j ∷ k ∷ l ∷ m ∷ n ∷ o ∷ p ∷ []) q = omega arith
little_sixteen _ q = absurd (omega arith)
