-- Words that are read: groups of eight as bytes, from a window and the bytes after it.
use Rattle.std.proofs.Common.{◌≡◌, ℕ, ◌+◌, ◌*◌, ◌-◌, ◌/◌, ◌%◌, ◌^◌, ◌<◌, ◌≤◌, Bool, false, List, [], ◌∷◌, ◌++◌, length, map, take, drop, set, get_or, replicate, All, Option, Ok, arith, refl, sym, ap, ap₂, ◌∙◌, subst, append-nil, append_assoc, length-append, take-add, mod-eq_of_lt}
use Rattle.std.proofs.lemmas.Nat.{mul-add-lt, pow-add, shl_whole}
use Rattle.std.proofs.lemmas.List.{take_all, take_at, drop_at, take-take, length-take-le, drop-drop, drop-replicate, drop_all, drop_more, get_or_at, set_at, length-map, length-replicate, nil_from_length}
use Rattle.std.specs.Int.{w64, w128, from_le_bytes}
use Rattle.deku_stream.specs.declared.ctx.Order.{Order}
use Rattle.deku_stream.specs.declared.ctx.Order.TheVariants.{Msb0, Lsb0}
use Rattle.deku_stream.specs.Bits.{bits_of, byte_bits, chunks, facing, group_number, groups, little, word_of}
use Rattle.deku_stream.specs.Streams.{flow}
use Rattle.deku_device.specs.Devices.{Health, DeviceKept, Loses}
use Rattle.deku_stream.specs.Standings.{Going, stream_of}
use Rattle.deku_stream.specs.Outcomes.{Outcome, Quiet}
use Rattle.deku_reader.specs.ReaderCalls.{TakesBits, ReadsWord}
use Rattle.deku_stream.specs.Moving.{Moves, FewerBits, GivesGroup, TakesGroups, TakesWord, MovesWord}
use Rattle.deku_stream.proofs.Binary.{length-bits_of, length-facing, facing-facing, group_number-lt}
use Rattle.deku_stream.proofs.Packed.{pow_byte}
use Rattle.deku_stream.proofs.Cuts.{length-flow, flow-append}
use Rattle.deku_stream.proofs.Groups.{by_groups, length-chunks}
use Rattle.deku_stream.proofs.Packing.{join_law}
use Rattle.deku_stream.proofs.Handing.{mapped_ok}
use Rattle.std.specs.Io.KnownBytes.{Consumes}
use Rattle.deku_reader.proofs.Moving.{fetched as fetched_behind, fewer_behind, moves_more, moves_keep, moves_inside, moved_loses, takes_ok}
use Rattle.deku_stream.proofs.Across.{below_64}
use Rattle.deku_stream.proofs.EightBytes.{bits_of-bin, low_eight, little-lt, little-append}
use Rattle.deku_stream.proofs.Bytes.{IsByte}
use Rattle.deku_stream.proofs.Words.{byte_groups, one_group, word_of-short, word_of-full, little-filled, little_sixteen}

-- a group's number is below two to the power of its length
pub gives_below : (o : Order) (n k : ℕ) (w v : List Bool) → GivesGroup o n w k v → k < 2 ^ n
gives_below o n k w v g = rw (g.worth, ← g.long) (group_number-lt o (g.group))

-- a window gives no bits and stays
pub gives_none : (o : Order) (n k : ℕ) (w v : List Bool) → GivesGroup o n w k v → n ≡ 0 → v ≡ w
gives_none o n k w v g z =
    let none : g.group ≡ [] = nil_from_length (g.group) (g.long ∙ z) in
    let same : facing o w ≡ facing o v = g.cut ∙ ap (λ s. s ++ facing o v) none in
    sym (facing-facing o v) ∙ ap (facing o) (sym same) ∙ facing-facing o w

-- the number of two parts of a group fits a byte
pub joined_fits : (a b i k : ℕ) → a < 2 ^ i → b < 2 ^ k → i + k < 8 → (a * 2 ^ k % 256 ≡ a * 2 ^ k) × (a * 2 ^ k + b < 256)
joined_fits a b i k h l few =
    let small : a * 2 ^ k + b < 2 ^ i * 2 ^ k = omega (arith, mul-add-lt a (2 ^ k) b (2 ^ i) h l) in
    let byte : 2 ^ i * 2 ^ k ≤ 256 = rw (← pow-add 2 i k) (pow_byte (i + k) (omega arith)) in
    let fits : a * 2 ^ k + b < 256 = omega arith in
    (mod-eq_of_lt (omega arith), fits)

-- ---- groups from a window and bytes
-- a group that begins in the window and ends in a byte
pub last_across : (o : Order) (w u v : List Bool) (b n m f s k : ℕ) → m ≡ length w → m < n → n ≤ 8 → GivesGroup o m w f u → GivesGroup o (n - m) (byte_bits b) s v
    → (o ≡ Msb0 → k ≡ f * 2 ^ (n - m) + s) → (o ≡ Lsb0 → k ≡ f + s * 2 ^ m) → TakesGroups o w (take (groups (n - length w)) (b ∷ [])) n (k ∷ []) v
last_across o w u v b n m f s k e p q g h high low =
    let one : groups (n - length w) ≡ 1 = omega arith in
    let all : length (facing o w) ≡ length (g.group ++ facing o u) = ap length (g.cut) in
    let nothing : facing o u ≡ [] = nil_from_length (facing o u) (omega (arith, all, length-facing o w, length-append (g.group) (facing o u), g.long)) in
    let first : facing o w ≡ g.group = g.cut ∙ ap (λ x. g.group ++ x) nothing ∙ append-nil (g.group) in
    let bits : List Bool = g.group ++ h.group in
    let wide : length bits ≡ n = omega (arith, length-append (g.group) (h.group), g.long, h.long) in
    rw one (record {
      bits = bits;
      long = wide;
      cut = ap₂ (λ x y. x ++ y) first (append-nil (facing o (byte_bits b)) ∙ h.cut) ∙ sym (append_assoc (g.group) (h.group) (facing o v));
      worth = one_group o bits (omega (arith, wide)) (omega (arith, wide)) ∙ ap (λ x. x ∷ []) (sym (number o refl));
    })
  where
    number : (p : Order) → o ≡ p → k ≡ group_number o (g.group ++ h.group)
    number Msb0 r = rw r (high r ∙ ap₂ (λ x y. x + y) (ap₂ (λ x y. x * 2 ^ y) (g.worth ∙ ap (λ x. group_number x (g.group)) r) (sym (h.long))) (h.worth ∙ ap (λ x. group_number x (h.group)) r)
        ∙ sym ((join_law (g.group) (h.group)).0))
    number Lsb0 r = rw r (low r ∙ ap₂ (λ x y. x + y) (g.worth ∙ ap (λ x. group_number x (g.group)) r) (ap₂ (λ x y. x * 2 ^ y) (h.worth ∙ ap (λ x. group_number x (h.group)) r) (sym (g.long)))
        ∙ sym ((join_law (g.group) (h.group)).1))

-- whole groups alone
pub gather_even : (o : Order) (w v : List Bool) (dst bytes : List ℕ) (n q : ℕ) → q ≡ n / 8 → n % 8 ≡ 0 → length w < 8 → length dst ≡ groups n → length bytes ≡ q → All IsByte bytes
    → facing o w ++ flow o (take q dst) ≡ flow o bytes ++ facing o v → TakesGroups o w (take (groups (n - length w)) dst) n (bytes ++ drop q dst) v
gather_even o w v dst bytes n q e z short room long all cut =
    let count : groups (n - length w) ≡ q = omega arith in
    let nothing : drop q dst ≡ [] = drop_all q dst (omega arith) in
    rw (count, nothing) (record {
      bits = flow o bytes;
      long = length-flow o bytes ∙ omega arith;
      cut = cut;
      worth = ap (λ s. map (group_number o) (chunks s)) (sym (append-nil (flow o bytes))) ∙ byte_groups o bytes [] all;
    })

-- whole groups and a short one
pub gather_more : (o : Order) (w u v : List Bool) (dst bytes : List ℕ) (n q b k : ℕ) → q ≡ n / 8 → 0 < n % 8 → length w < 8 → length dst ≡ groups n → length bytes ≡ q → All IsByte bytes
    → facing o w ++ flow o (take q dst) ≡ flow o bytes ++ facing o u → length u ≡ length w → b ≡ get_or (bytes ++ drop q dst) q 0
    → TakesGroups o u (take (groups (n % 8 - length u)) (b ∷ [])) (n % 8) (k ∷ []) v
    → TakesGroups o w (take (groups (n - length w)) dst) n (set (bytes ++ drop q dst) q k) v
gather_more o w u v dst bytes n q b k e p short room long all cut same at g =
    let j : ℕ = groups (n % 8 - length u) in
    let count : groups (n - length w) ≡ q + j = omega arith in
    let c : ℕ = get_or dst q 0 in
    let last : drop q dst ≡ c ∷ [] = drop_more dst q 0 (omega arith) ∙ ap (λ s. c ∷ s) (drop_all (q + 1) dst (omega arith)) in
    let byte : b ≡ c = at ∙ ap (λ s. get_or (bytes ++ s) q 0) last ∙ get_or_at bytes c [] 0 q long in
    let done : set (bytes ++ drop q dst) q k ≡ bytes ++ k ∷ [] = ap (λ s. set (bytes ++ s) q k) last ∙ set_at bytes c [] k q long in
    let taken : take (q + j) dst ≡ take q dst ++ take j (b ∷ []) = take-add q j dst ∙ ap (λ s. take q dst ++ take j s) (last ∙ ap (λ x. x ∷ []) (sym byte)) in
    rw (count, done, taken) (record {
      bits = flow o bytes ++ g.bits;
      long = omega (arith, length-append (flow o bytes) (g.bits), length-flow o bytes, g.long);
      cut = ap (λ s. facing o w ++ s) (flow-append o (take q dst) (take j (b ∷ [])))
          ∙ sym (append_assoc (facing o w) (flow o (take q dst)) (flow o (take j (b ∷ []))))
          ∙ ap (λ s. s ++ flow o (take j (b ∷ []))) cut
          ∙ append_assoc (flow o bytes) (facing o u) (flow o (take j (b ∷ [])))
          ∙ ap (λ s. flow o bytes ++ s) (g.cut)
          ∙ sym (append_assoc (flow o bytes) (g.bits) (facing o v));
      worth = byte_groups o bytes (g.bits) all ∙ ap (λ s. bytes ++ s) (g.worth);
    })

-- ---- the word that is returned
-- so many groups
length-numbers : (o : Order) (w v : List Bool) (bytes numbers : List ℕ) (n : ℕ) → TakesGroups o w bytes n numbers v → length numbers ≡ groups n
length-numbers o w v bytes numbers n g =
    ap length (sym (g.worth)) ∙ length-map (chunks (g.bits)) (group_number o) ∙ length-chunks (g.bits) ∙ ap groups (g.long)

-- of a group that the window has
pub word_inside : (o : Order) (w v : List Bool) (t : Option (List ℕ)) (n k : ℕ) → n ≤ 8 → GivesGroup o n w k v → MovesWord o w t n k v t
word_inside o w v t n k l g = record {
  bits = g.group;
  long = g.long;
  moved = moves_inside o w t (g.group) v (g.cut);
  worth = g.worth ∙ sym (word_of-short o (g.group) (omega (arith, g.long)));
}

-- of groups in sixteen bytes
pub word_gathered : (o : Order) (w u v : List Bool) (t x : Option (List ℕ)) (n k m : ℕ) (fetched numbers : List ℕ) → n ≤ 128 → length w ≤ 8 → length u ≡ length w % 8 → length w < n
    → k ≡ groups (n - length w % 8) → m ≡ groups n → length fetched ≡ k → Moves o w t (facing o u ++ flow o fetched) [] x
    → TakesGroups o u (take (groups (n - length u)) (take m (fetched ++ drop k (replicate 16 0)))) n numbers v
    → MovesWord o w t n (from_le_bytes w128 (numbers ++ drop m (fetched ++ drop k (replicate 16 0)))) v x × (length v ≡ 8 * k - (n - length w % 8))
word_gathered o w u v t x n k m fetched numbers wide l short more e f long moved g =
    let zeros : List ℕ = drop k (replicate 16 0) in
    let j : ℕ = m - k in
    let sum : m ≡ k + j = omega arith in
    let count : groups (n - length u) ≡ k = ap (λ x. groups (n - x)) short ∙ sym e in
    let bytes : take (groups (n - length u)) (take m (fetched ++ zeros)) ≡ fetched =
    ap (λ x. take x (take m (fetched ++ zeros))) count ∙ take-take k m (fetched ++ zeros) (omega arith) ∙ take_at fetched zeros k long in
    let rest : drop m (fetched ++ zeros) ≡ replicate (16 - m) 0 =
    ap (λ x. drop x (fetched ++ zeros)) sum ∙ sym (drop-drop j k (fetched ++ zeros)) ∙ ap (drop j) (drop_at fetched zeros k long)
    ∙ drop-drop j k (replicate 16 0) ∙ ap (λ x. drop x (replicate 16 0)) (sym sum) ∙ drop-replicate m 16 0 in
    let cut : facing o u ++ flow o fetched ≡ g.bits ++ facing o v = ap (λ s. facing o u ++ flow o s) (sym bytes) ∙ g.cut in
    let size : length numbers ≡ m = length-numbers o u v _ numbers n g ∙ sym f in
    let full : length (numbers ++ replicate (16 - m) 0) ≡ 16 = omega (arith, length-append numbers (replicate (16 - m) 0), length-replicate {A = ℕ} (16 - m) 0) in
    let all : length (facing o u ++ flow o fetched) ≡ length (g.bits ++ facing o v) = ap length cut in
    let left : length v ≡ 8 * k - (n - length w % 8) =
    omega (arith, all, short, long, e, g.long, length-append (facing o u) (flow o fetched), length-facing o u, length-flow o fetched, length-append (g.bits) (facing o v), length-facing o v) in (
      record {
        bits = g.bits;
        long = g.long;
        moved = moves_keep o w t (facing o u ++ flow o fetched) (g.bits) v x moved cut;
        worth = ap (λ s. from_le_bytes w128 (numbers ++ s)) rest ∙ little_sixteen (numbers ++ replicate (16 - m) 0) full ∙ little-filled numbers (16 - m) ∙ ap little (sym (g.worth));
      },
      left,
    )

-- of bits that begin in the window and end in eight bytes that were at hand
pub word_at_hand : (o : Order) (w v : List Bool) (t x : Option (List ℕ)) (n k number : ℕ) (eight : List ℕ) → n ≤ 64 → length w < 8 → length w < n → k ≡ groups (n - length w) → length eight ≡ 8
    → Consumes t x (take k eight) → TakesWord o w (take (groups (n - length w)) eight) n number v → MovesWord o w t n number v x × (length v < 8)
word_at_hand o w v t x n k number eight wide short more e size consumed g =
    let bytes : List ℕ = take k eight in
    let long : length bytes ≡ k = length-take-le k eight (omega arith) in
    let cut : facing o w ++ flow o bytes ≡ g.bits ++ facing o v = ap (λ j. facing o w ++ flow o (take j eight)) e ∙ g.cut in
    let sum : length (facing o w ++ flow o bytes) ≡ length (g.bits ++ facing o v) = ap length cut in
    let few : length v < 8 =
    omega (arith, sum, long, e, g.long, length-append (facing o w) (flow o bytes), length-facing o w, length-flow o bytes, length-append (g.bits) (facing o v), length-facing o v) in (
      record {
        bits = g.bits;
        long = g.long;
        moved = moves_keep o w t (facing o w ++ flow o bytes) (g.bits) v x (fetched_behind o w t bytes x consumed) cut;
        worth = g.worth;
      },
      few,
    )

-- of whole bytes that were at hand, where no bit was unread
pub word_whole_at_hand : (o : Order) (w : List Bool) (t x : Option (List ℕ)) (n k number : ℕ) (eight : List ℕ) → n ≤ 64 → 0 < n → length w ≡ 0 → k ≡ groups n → length eight ≡ 8
    → Consumes t x (take k eight) → TakesWord o [] (take (groups n) eight) n number [] → MovesWord o w t n number w x
word_whole_at_hand o w t x n k number eight wide some none e size consumed g =
    let nothing : w ≡ [] = nil_from_length w none in
    let few : groups (n - length {A = Bool} []) ≡ groups n = omega arith in
    subst (λ v. MovesWord o v t n number v x) (sym nothing) ((word_at_hand o [] [] t x n k number eight wide (omega arith) some (e ∙ sym few) size consumed (rw few g)).0)

-- ---- of more than 64 bits
-- a word is below two to the power of its length
pub word_of-lt : (o : Order) (s : List Bool) → word_of o s < 2 ^ length s
word_of-lt o s = by_groups (λ s. word_of o s < 2 ^ length s) (omega arith)
    (λ s p l. rw (word_of-short o s (omega arith)) (group_number-lt o s))
    (λ g t l h.
    let long : length (g ++ t) ≡ 8 + length t = length-append g t ∙ ap (λ n. n + length t) l in
    let g_small : group_number o g < 2 ^ 8 = subst (λ n. group_number o g < 2 ^ n) l (group_number-lt o g) in
    rw (word_of-full o g t l, long, pow-add 2 8 (length t)) (omega (arith, g_small, h)))
    s

-- eight bytes through the window, and the bits after them
pub word_behind_eight : (o : Order) (w u v : List Bool) (t y x : Option (List ℕ)) (a n k : ℕ) (eight first : List ℕ) → a ≡ 64 + n → n ≤ 64 → length eight ≡ 8 → length first ≡ 8
    → Consumes t y (take 8 eight) → facing o w ++ flow o eight ≡ flow o first ++ facing o u → All IsByte first → MovesWord o u y n k v x
    → (k * 2 ^ 64 % 2 ^ 128 + from_le_bytes w64 first < 2 ^ 128) × MovesWord o w t a (k * 2 ^ 64 % 2 ^ 128 + from_le_bytes w64 first) v x
word_behind_eight o w u v t y x a n k eight first sum few l m consumed cut all g =
    let small : k < 2 ^ n = rw (g.worth, ← g.long) (word_of-lt o g.bits) in
    let below : k < 2 ^ 64 = below_64 n k few small in
    let shifted : k * 2 ^ 64 % 2 ^ 128 ≡ k * 2 ^ 64 = shl_whole k 64 64 128 below (omega arith) in
    let low : from_le_bytes w64 first ≡ little first = low_eight first m in
    let low_small : little first < 2 ^ 64 = subst (λ j. little first < 2 ^ (8 * j)) m (little-lt first all) in
    let whole : take 8 eight ≡ eight = take_all 8 eight (omega arith) in
    let start : Moves o w t (flow o first) u y = moves_keep o w t (facing o w ++ flow o eight) (flow o first) u y (fetched_behind o w t eight y (rw whole at consumed)) cut in
    let size : 8 * length first ≡ 64 = omega arith in
    let worth : word_of o (flow o first ++ g.bits) ≡ little first + 2 ^ 64 * word_of o g.bits =
    ap little (byte_groups o first g.bits all) ∙ little-append first (map (group_number o) (chunks g.bits)) ∙ ap (λ j. little first + 2 ^ j * word_of o g.bits) size in (
      rw (shifted, low) (omega arith),
      rw (shifted, low) (record {
        bits = flow o first ++ g.bits;
        long = length-append (flow o first) g.bits ∙ ap₂ (λ i j. i + j) (length-flow o first ∙ size) (g.long) ∙ sym sum;
        moved = moves_more o w t (flow o first) u y g.bits v x start (g.moved);
        worth = ap (λ j. j * 2 ^ 64 + little first) (g.worth) ∙ turn (word_of o g.bits) (2 ^ 64) (little first) ∙ sym worth;
      }),
    )
  where
    turn : (a p b : ℕ) → a * p + b ≡ b + p * a
    turn a p b = omega arith

-- or too few of these
pub fewer_behind_eight : (o : Order) (w u : List Bool) (t y : Option (List ℕ)) (a n : ℕ) (eight first : List ℕ) → a ≡ 64 + n → length eight ≡ 8 → length first ≡ 8
    → Consumes t y (take 8 eight) → facing o w ++ flow o eight ≡ flow o first ++ facing o u → FewerBits n u y → FewerBits a w t
fewer_behind_eight o w u t y a n eight first sum l m consumed cut f =
    let whole : take 8 eight ≡ eight = take_all 8 eight (omega arith) in
    let start : Moves o w t (flow o first) u y = moves_keep o w t (facing o w ++ flow o eight) (flow o first) u y (fetched_behind o w t eight y (rw whole at consumed)) cut in
    fewer_behind o w t (flow o first) u y n a start f (omega (arith, length-flow o first))

-- ---- what a read of a word returns
-- bits were taken
pub word_ok : (o : Order) (w : List Bool) (t : Option (List ℕ)) (c n k : ℕ) (v : List Bool) (u : Option (List ℕ)) (f g : Health) → length w ≤ 8 → c + n < 2 ^ 64
    → MovesWord o w t n k v u → (0 < n → length v < 8) → (n ≡ 0 → (v ≡ w) × (u ≡ t)) → DeviceKept f g
    → Outcome (ReadsWord o n) (Going (stream_of w t) c) f (Ok k) (Going (stream_of v u) (c + n)) g
word_ok o w t c n k v u f g l room m short none kept =
    let bits : List Bool = m.bits in
    let taken = takes_ok o w t c n bits v u (m.long) l room (m.moved) (λ p. short (omega (arith, p, m.long))) (λ z. none (omega (arith, z, m.long))) in
    let counted = subst (λ x. TakesBits o n false (Going (stream_of w t) c) (Ok bits) (Going (stream_of v u) (c + x))) (m.long) taken in
    subst (λ x. Outcome (ReadsWord o n) (Going (stream_of w t) c) f (Ok x) (Going (stream_of v u) (c + n)) g) (sym (m.worth)) (mapped_ok (word_of o) (Quiet counted kept))

-- and as many bytes as they need were fetched
pub word_loses : (o : Order) (w : List Bool) (t : Option (List ℕ)) (n k : ℕ) (v : List Bool) (u : Option (List ℕ)) → length w ≤ 8
    → MovesWord o w t n k v u → (0 < n → length v < 8) → (n ≡ 0 → (v ≡ w) × (u ≡ t)) → Loses (groups (n - length w)) t u
word_loses o w t n k v u l m short none =
    moved_loses o w t n (m.bits) v u (m.long) l (m.moved) (λ p. short (omega (arith, p, m.long))) (λ z. none (omega (arith, z, m.long)))

-- ---- bits as their number
-- that the window has
pub number_inside : (o : Order) (w v : List Bool) (t : Option (List ℕ)) (n k : ℕ) → GivesGroup o n w k v → Moves o w t (facing o (bits_of n k)) v t
number_inside o w v t n k g =
    let long : length (facing o g.group) ≡ n = length-facing o g.group ∙ g.long in
    let same : bits_of n k ≡ facing o g.group = ap₂ bits_of (sym long) g.worth ∙ bits_of-bin (facing o g.group) in
    moves_inside o w t (facing o (bits_of n k)) v (g.cut ∙ ap (λ s. s ++ facing o v) (sym (ap (facing o) same ∙ facing-facing o g.group)))

-- of which the last are in eight bytes that were at hand
pub number_short : (o : Order) (w v : List Bool) (n k : ℕ) (eight : List ℕ) → length eight ≡ 8 → n ≤ 64 → length w < 8 → length w < n
    → facing o w ++ flow o (take (groups (n - length w)) eight) ≡ facing o (bits_of n k) ++ facing o v → length v < 8
number_short o w v n k eight size wide short more cut =
    let bytes : List ℕ = take (groups (n - length w)) eight in
    let long : length bytes ≡ groups (n - length w) = length-take-le (groups (n - length w)) eight (omega arith) in
    let sum : length (facing o w ++ flow o bytes) ≡ length (facing o (bits_of n k) ++ facing o v) = ap length cut in
    omega (
      arith,
      sum,
      long,
      length-facing o (bits_of n k),
      length-bits_of n k,
      length-facing o w,
      length-facing o v,
      length-append (facing o w) (flow o bytes),
      length-flow o bytes,
      length-append (facing o (bits_of n k)) (facing o v),
    )

-- a read of them
pub number_ok : (o : Order) (w : List Bool) (t : Option (List ℕ)) (c n k : ℕ) (v : List Bool) (u : Option (List ℕ)) (f g : Health) → length w ≤ 8 → c + n < 2 ^ 64
    → Moves o w t (facing o (bits_of n k)) v u → (0 < n → length v < 8) → (n ≡ 0 → (v ≡ w) × (u ≡ t)) → DeviceKept f g
    → Outcome (TakesBits o n) (Going (stream_of w t) c) f (Ok (facing o (bits_of n k))) (Going (stream_of v u) (c + n)) g
number_ok o w t c n k v u f g l room moved short none kept =
    let bits : List Bool = facing o (bits_of n k) in
    let long : length bits ≡ n = length-facing o (bits_of n k) ∙ length-bits_of n k in
    let taken = takes_ok o w t c n bits v u long l room moved (λ p. short (omega (arith, p, long))) (λ z. none (omega (arith, z, long))) in
    Quiet (subst (λ x. TakesBits o n false (Going (stream_of w t) c) (Ok bits) (Going (stream_of v u) (c + x))) long taken) kept

-- as many bytes as they need were fetched
pub number_loses : (o : Order) (w : List Bool) (t : Option (List ℕ)) (n k : ℕ) (v : List Bool) (u : Option (List ℕ)) → length w ≤ 8
    → Moves o w t (facing o (bits_of n k)) v u → (0 < n → length v < 8) → (n ≡ 0 → (v ≡ w) × (u ≡ t)) → Loses (groups (n - length w)) t u
number_loses o w t n k v u l moved short none =
    let long : length (facing o (bits_of n k)) ≡ n = length-facing o (bits_of n k) ∙ length-bits_of n k in
    moved_loses o w t n (facing o (bits_of n k)) v u long l moved (λ p. short (omega (arith, p, long))) (λ z. none (omega (arith, z, long)))
