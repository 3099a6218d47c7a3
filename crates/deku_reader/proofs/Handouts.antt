-- Bits that are handed out of a window and of bytes after it, one group after the other.
use Rattle.std.proofs.Common.{◌≡◌, ℕ, ◌+◌, ◌*◌, ◌-◌, ◌<◌, ◌≤◌, min, Bool, List, [], ◌∷◌, ◌++◌, length, take, drop, set, get_or, All, arith, sym, ap, ap₂, ◌∙◌, ⊎_elim, append-nil, append_assoc, length-append}
use Rattle.std.proofs.lemmas.Bool.{cases_lt}
use Rattle.std.proofs.lemmas.List.{take_all, take_at, take_more, take_more_set, drop_all, drop-drop, drop-set-lt, get_or-drop, length-drop, length-take, nil_from_length}
use Rattle.std.proofs.lemmas.List.Elements.{All-append}
use Rattle.std.proofs.lemmas.Slice.{take-put_mid, drop-put_mid}
use Rattle.std.proofs.Math.Seq.{take-add}
use borrow.Rule.Slice.PartMut.{mid_of, put_mid}
use Rattle.deku_stream.specs.declared.ctx.Order.{Order}
use Rattle.deku_stream.specs.Bits.{byte_bits, facing, groups}
use Rattle.deku_stream.specs.Streams.{flow}
use Rattle.deku_stream.proofs.Binary.{length-facing}
use Rattle.deku_stream.proofs.Bytes.{IsByte}
use Rattle.deku_stream.proofs.Cuts.{length-flow, flow-append}
use Rattle.deku_stream.proofs.Reading.{facing_nil}

-- one byte more
pub flow_more : (o : Order) (bs : List ℕ) (b : ℕ) → flow o (bs ++ b ∷ []) ≡ flow o bs ++ facing o (byte_bits b)
flow_more o bs b = flow-append o bs (b ∷ []) ∙ ap (λ s. flow o bs ++ s) (append-nil (facing o (byte_bits b)))

-- ---- bits of a window
-- one bit more
pub hand_more : (o : Order) (w v u taken : List Bool) (b : Bool) → facing o w ≡ taken ++ facing o v → facing o v ≡ b ∷ facing o u → facing o w ≡ (taken ++ b ∷ []) ++ facing o u
hand_more o w v u taken b e f = e ∙ ap (λ s. taken ++ s) f ∙ sym (append_assoc taken (b ∷ []) (facing o u))

-- a window that had more bits than were handed out has one
pub hand_some : (o : Order) (w v dst : List Bool) (i : ℕ) → facing o w ≡ take i dst ++ facing o v → i < length dst → length dst ≤ length w → 0 < length v
hand_some o w v dst i e h l =
    omega (arith, ap length e, length-append (take i dst) (facing o v), length-take i dst, length-facing o w, length-facing o v)

-- ---- bytes that go through a window
-- the first element of what is left
first_left : (xs ys : List ℕ) (i : ℕ) → drop i xs ≡ drop i ys → get_or xs i 0 ≡ get_or ys i 0
first_left xs ys i e =
    let same : i + 0 ≡ i = omega arith in
    sym (get_or-drop i xs 0 0 ∙ ap (λ k. get_or xs k 0) same) ∙ ap (λ s. get_or s 0 0) e ∙ get_or-drop i ys 0 0 ∙ ap (λ k. get_or ys k 0) same

-- one byte more
pub exchange_more : (o : Order) (w u v : List Bool) (old dst : List ℕ) (i b r : ℕ) → i < length dst → length dst ≡ length old → drop i dst ≡ drop i old → b ≡ get_or dst i 0
    → facing o w ++ flow o (take i old) ≡ flow o (take i dst) ++ facing o u → facing o u ++ facing o (byte_bits b) ≡ facing o (byte_bits r) ++ facing o v
    → facing o w ++ flow o (take (i + 1) old) ≡ flow o (take (i + 1) (set dst i r)) ++ facing o v
exchange_more o w u v old dst i b r h l same at e f =
    let A : List ℕ = take i old in
    let B : List ℕ = take i dst in
    let x : List Bool = facing o (byte_bits b) in
    let y : List Bool = facing o (byte_bits r) in
    let more : take (i + 1) old ≡ A ++ b ∷ [] = take_more old i 0 (omega arith) ∙ ap (λ k. A ++ k ∷ []) (sym (at ∙ first_left dst old i same)) in
    ap (λ s. facing o w ++ s) (ap (flow o) more ∙ flow_more o A b)
    ∙ sym (append_assoc (facing o w) (flow o A) x)
    ∙ ap (λ s. s ++ x) e
    ∙ append_assoc (flow o B) (facing o u) x
    ∙ ap (λ s. flow o B ++ s) f
    ∙ sym (append_assoc (flow o B) y (facing o v))
    ∙ ap (λ s. s ++ facing o v) (sym (flow_more o B r) ∙ ap (flow o) (sym (take_more_set dst i r h)))

-- what is after the byte stays
pub behind_more : (old dst : List ℕ) (i r : ℕ) → drop i dst ≡ drop i old → drop (i + 1) (set dst i r) ≡ drop (i + 1) old
behind_more old dst i r e = drop-set-lt (i + 1) dst i r (omega arith) ∙ sym (drop-drop 1 i dst) ∙ ap (drop 1) e ∙ drop-drop 1 i old

-- through an empty window bytes go as they are
pub empty_through : (o : Order) (w : List Bool) (bs : List ℕ) → length w ≡ 0 → facing o w ++ flow o bs ≡ flow o bs ++ facing o w
empty_through o w bs z =
    let none : facing o w ≡ [] = ap (facing o) (nil_from_length w z) ∙ facing_nil o in
    ap (λ s. s ++ flow o bs) none ∙ sym (append-nil (flow o bs)) ∙ ap (λ s. flow o bs ++ s) (sym none)

-- ---- parts that go through a window
-- one part and the next
pub parts_through : (o : Order) (w u v : List Bool) (x y p q : List ℕ) → facing o w ++ flow o x ≡ flow o p ++ facing o u → facing o u ++ flow o y ≡ flow o q ++ facing o v
    → facing o w ++ flow o (x ++ y) ≡ flow o (p ++ q) ++ facing o v
parts_through o w u v x y p q e f =
    ap (λ s. facing o w ++ s) (flow-append o x y)
    ∙ sym (append_assoc (facing o w) (flow o x) (flow o y))
    ∙ ap (λ s. s ++ flow o y) e
    ∙ append_assoc (flow o p) (facing o u) (flow o y)
    ∙ ap (λ s. flow o p ++ s) f
    ∙ sym (append_assoc (flow o p) (flow o q) (facing o v))
    ∙ ap (λ s. s ++ facing o v) (sym (flow-append o p q))

-- one part more of a list that is written in place
pub part_more : (o : Order) (w u v : List Bool) (old dst ys : List ℕ) (a k n : ℕ) → n ≡ a + k → a + k ≤ length dst → length ys ≡ k → drop a dst ≡ drop a old
    → facing o w ++ flow o (take a old) ≡ flow o (take a dst) ++ facing o u → facing o u ++ flow o (mid_of a k dst) ≡ flow o ys ++ facing o v
    → facing o w ++ flow o (take n old) ≡ flow o (take n (put_mid a k dst ys)) ++ facing o v
part_more o w u v old dst ys a k n m h l same e f =
    let before : take n old ≡ take a old ++ mid_of a k dst = ap (λ i. take i old) m ∙ take-add a k old ∙ ap (λ s. take a old ++ take k s) (sym same) in
    let after : take n (put_mid a k dst ys) ≡ take a dst ++ ys = take-put_mid a k dst ys n (omega arith) (omega arith) in
    ap (λ s. facing o w ++ flow o s) before
    ∙ parts_through o w u v (take a old) (mid_of a k dst) (take a dst) ys e f
    ∙ ap (λ s. flow o s ++ facing o v) (sym after)

-- what is after that part stays
pub part_behind : (old dst ys : List ℕ) (a k n : ℕ) → n ≡ a + k → a + k ≤ length dst → length ys ≡ k → drop a dst ≡ drop a old → drop n (put_mid a k dst ys) ≡ drop n old
part_behind old dst ys a k n m h l same =
    let all : a + k ≡ n = sym m in
    drop-put_mid a k dst ys n (omega arith) (omega arith) l
    ∙ sym (drop-drop k a dst ∙ ap (λ i. drop i dst) all)
    ∙ ap (drop k) same ∙ drop-drop k a old ∙ ap (λ i. drop i old) all

-- all that is written is bytes
pub part_bytes : (dst ys : List ℕ) (a k n : ℕ) → n ≡ a + k → a + k ≤ length dst → length ys ≡ k → All IsByte (take a dst) → All IsByte ys → All IsByte (take n (put_mid a k dst ys))
part_bytes dst ys a k n m h l first more =
    rw (take-put_mid a k dst ys n (omega arith) (omega arith)) (All-append IsByte (take a dst) ys first more)

-- ---- bits of bytes
-- a part of a list that is written, up to so many elements or to the list's end
pub take_written : {X : Type 0} (xs ys : List X) (a e k n : ℕ) → a ≤ length xs → e ≡ min (length xs) (a + k) → length ys ≡ e - a → n ≡ a + k → take n (put_mid a (e - a) xs ys) ≡ take a xs ++ ys
take_written xs ys a e k n h is l m = ⊎_elim short whole (cases_lt (length xs) (a + k))
  where
    whole : a + k ≤ length xs → take n (put_mid a (e - a) xs ys) ≡ take a xs ++ ys
    whole p = take-put_mid a (e - a) xs ys n (omega arith) h

    short : length xs < a + k → take n (put_mid a (e - a) xs ys) ≡ take a xs ++ ys
    short p =
        let none : drop (e - a) (drop a xs) ≡ [] = drop_all (e - a) (drop a xs) (omega (arith, length-drop a xs)) in
        let all : put_mid a (e - a) xs ys ≡ take a xs ++ ys = ap (λ s. take a xs ++ (ys ++ s)) none ∙ ap (λ s. take a xs ++ s) (append-nil ys) in
        ap (take n) all ∙ take_all n (take a xs ++ ys) (omega (arith, length-append (take a xs) ys, length-take a xs))

-- a window is empty where bits are wanted after whole bytes
hand_none : (o : Order) (w v dst : List Bool) (bs : List ℕ) (i : ℕ) → length w ≡ 0 → facing o w ++ flow o (take i bs) ≡ take (8 * i) dst ++ facing o v → i ≤ length bs → 8 * i < length dst → facing o v ≡ []
hand_none o w v dst bs i z e h l =
    nil_from_length (facing o v)
    (omega (arith, z, ap length e, length-append (facing o w) (flow o (take i bs)), length-facing o w, length-flow o (take i bs), length-take i bs, length-append (take (8 * i) dst) (facing o v), length-take (8 * i) dst))

-- one byte more
pub hand_bytes_more : (o : Order) (w u v dst d : List Bool) (bs : List ℕ) (i b e : ℕ) → length w ≡ 0 → length bs ≡ groups (length dst) → i < length bs → b ≡ get_or bs i 0
    → e ≡ min (length dst) (8 * i + 8) → length d ≡ e - 8 * i → facing o w ++ flow o (take i bs) ≡ take (8 * i) dst ++ facing o u → facing o (byte_bits b) ≡ d ++ facing o v
    → facing o w ++ flow o (take (i + 1) bs) ≡ take (8 * (i + 1)) (put_mid (8 * i) (e - 8 * i) dst d) ++ facing o v
hand_bytes_more o w u v dst d bs i b e z room h at is long f g =
    let A : List ℕ = take i bs in
    let x : List Bool = facing o (byte_bits b) in
    let nothing : facing o u ≡ [] = hand_none o w u dst bs i z f (omega arith) (omega arith) in
    let more : take (i + 1) bs ≡ A ++ b ∷ [] = take_more bs i 0 h ∙ ap (λ k. A ++ k ∷ []) (sym at) in
    let done : take (8 * (i + 1)) (put_mid (8 * i) (e - 8 * i) dst d) ≡ take (8 * i) dst ++ d = take_written dst d (8 * i) e 8 (8 * (i + 1)) (omega arith) is long (omega arith) in
    ap (λ s. facing o w ++ s) (ap (flow o) more ∙ flow_more o A b)
    ∙ sym (append_assoc (facing o w) (flow o A) x)
    ∙ ap (λ s. s ++ x) (f ∙ ap (λ s. take (8 * i) dst ++ s) nothing ∙ append-nil (take (8 * i) dst))
    ∙ ap (λ s. take (8 * i) dst ++ s) g
    ∙ sym (append_assoc (take (8 * i) dst) d (facing o v))
    ∙ ap (λ s. s ++ facing o v) (sym done)

-- ---- a run of bits
-- how long a part is
pub part-length : {X : Type 0} (xs : List X) (a e : ℕ) → e ≤ length xs → length (mid_of a (e - a) xs) ≡ e - a
part-length xs a e h = length-take (e - a) (drop a xs) ∙ omega (arith, length-drop a xs)

-- a list of which first the beginning is written, and then the rest
pub two_parts : (xs first second : List Bool) (a : ℕ) → a ≤ length xs → length first ≡ a → put_mid a (length (first ++ drop a xs) - a) (first ++ drop a xs) second ≡ first ++ second
two_parts xs first second a h l =
    let all : List Bool = first ++ drop a xs in
    let none : drop (length all - a) (drop a all) ≡ [] = drop_all (length all - a) (drop a all) (omega (arith, length-drop a all)) in
    ap₂ (λ x y. x ++ (second ++ y)) (take_at first (drop a xs) a l) none ∙ ap (λ s. first ++ s) (append-nil second)

-- fewer than eight bits stay in the window
pub run_short : (o : Order) (w v x first second : List Bool) (bytes : List ℕ) (n a : ℕ) → 0 < n → length w ≤ 8 → a ≡ min n (length w) → length first ≡ a → length second ≡ n - a
    → length bytes ≡ groups (n - a) → facing o w ≡ first ++ facing o v → facing o v ++ flow o bytes ≡ second ++ facing o x → length x < 8
run_short o w v x first second bytes n a p l is lf ls lb e f =
    let front : length w ≡ a + length v = omega (arith, ap length e, length-append first (facing o v), length-facing o w, length-facing o v) in
    let back : length v + 8 * length bytes ≡ (n - a) + length x =
    omega (arith, ap length f, length-append (facing o v) (flow o bytes), length-facing o v, length-flow o bytes, length-append second (facing o x), length-facing o x) in
    omega arith
