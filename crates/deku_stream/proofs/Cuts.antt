-- Cutting in eights: whole groups and the remainder; bytes and their bits; runs.
use Rattle.std.proofs.Common.{ℕ, suc, ◌+◌, ◌*◌, ◌-◌, ◌/◌, ◌%◌, ◌<◌, ◌≤◌, ◌≡◌, Bool, true, false, List, [], ◌∷◌, ◌++◌, length, map, take, drop, replicate, flat_map, refl, ap, sym, ◌∙◌, ⊎_elim, arith, append_assoc, append-nil, length-append, length-drop, mod-eq_of_lt}
use Rattle.std.proofs.lemmas.List.{length-replicate}
use Rattle.std.proofs.lemmas.List.Concat.{flat_map-append}
use Rattle.std.proofs.lemmas.Bool.{cases_Bool}
use Rattle.deku_stream.specs.declared.ctx.Order.{Order}
use Rattle.deku_stream.specs.declared.ctx.Order.TheVariants.{Msb0, Lsb0}
use Rattle.deku_stream.specs.Bits.{bin, bits_of, byte_bits, chunks, facing, group_number}
use Rattle.deku_stream.specs.Pieces.{Piece, piece, same_order, in_front, runs, filled, run_bytes, laid_out}
use Rattle.deku_stream.specs.Writers.{whole_groups, remainder}
pub use Rattle.deku_stream.specs.Streams.{flow}
use Rattle.deku_stream.proofs.Binary.{bin-inj, length-facing, facing-facing, length-bits_of, bin-bits_of, group_number-lt}
use Rattle.deku_stream.proofs.Groups.{chunks-full, chunks-short, by_groups}

-- ---- whole groups and the remainder
quotient-more : (g t : List Bool) → length g ≡ 8 → 8 * (length (g ++ t) / 8) ≡ 8 + 8 * (length t / 8)
unfolding laid_out
quotient-more g t l = omega (arith, length-append g t)

take_more_front : (g t : List Bool) (n : ℕ) → length g ≡ 8 → take (8 + n) (g ++ t) ≡ g ++ take n t
unfolding laid_out
take_more_front (a ∷ b ∷ c ∷ d ∷ e ∷ f ∷ g ∷ h ∷ []) t n l =
    let same : 8 + n ≡ suc (suc (suc (suc (suc (suc (suc (suc n))))))) = omega arith in
    rw same refl
take_more_front _ t n l = absurd (omega arith)

pub drop_more_front : (g t : List Bool) (n : ℕ) → length g ≡ 8 → drop (8 + n) (g ++ t) ≡ drop n t
unfolding laid_out
drop_more_front (a ∷ b ∷ c ∷ d ∷ e ∷ f ∷ g ∷ h ∷ []) t n l =
    let same : 8 + n ≡ suc (suc (suc (suc (suc (suc (suc (suc n))))))) = omega arith in
    rw same refl
drop_more_front _ t n l = absurd (omega arith)

whole_groups-full : (g t : List Bool) → length g ≡ 8 → whole_groups (g ++ t) ≡ g ++ whole_groups t
unfolding laid_out
whole_groups-full g t l = rw (quotient-more g t l) (take_more_front g t (8 * (length t / 8)) l)

pub remainder-full : (g t : List Bool) → length g ≡ 8 → remainder (g ++ t) ≡ remainder t
unfolding laid_out
remainder-full g t l = rw (quotient-more g t l) (drop_more_front g t (8 * (length t / 8)) l)

whole_groups-short : (s : List Bool) → length s < 8 → whole_groups s ≡ []
unfolding laid_out
whole_groups-short s l = let e : 8 * (length s / 8) ≡ 0 = omega arith in rw e refl

pub remainder-short : (s : List Bool) → length s < 8 → remainder s ≡ s
unfolding laid_out
remainder-short s l = let e : 8 * (length s / 8) ≡ 0 = omega arith in rw e refl

pub length-remainder : (t : List Bool) → length (remainder t) ≡ length t % 8
unfolding laid_out
length-remainder t = length-drop (8 * (length t / 8)) t ∙ omega arith

-- the bytes that an order's list gives off
abbrev pub emitted : Order → List Bool → List ℕ
emitted o t = map (group_number o) (chunks (whole_groups t))

pub emitted-full : (o : Order) (g t : List Bool) → length g ≡ 8 → emitted o (g ++ t) ≡ group_number o g ∷ emitted o t
unfolding laid_out
emitted-full o g t l = rw (whole_groups-full g t l, chunks-full g (whole_groups t) l) refl

pub emitted-short : (o : Order) (s : List Bool) → length s < 8 → emitted o s ≡ []
unfolding laid_out
emitted-short o s l = rw (whole_groups-short s l) refl

pub length-emitted : (o : Order) (t : List Bool) → length (emitted o t) ≡ length t / 8
unfolding laid_out
length-emitted o t = by_groups (λ t. length (emitted o t) ≡ length t / 8) refl
    (λ s p l. rw (emitted-short o s l) (omega arith))
    (λ g t l h. rw (emitted-full o g t l) (omega (arith, length-append g t)))
    t

-- ---- a byte's bits and a group's byte
pub length-byte_bits : (b : ℕ) → length (byte_bits b) ≡ 8
unfolding bits_of byte_bits laid_out
length-byte_bits b = refl

pub byte-of : (o : Order) (b : ℕ) → b < 256 → group_number o (facing o (byte_bits b)) ≡ b
unfolding bits_of byte_bits laid_out
byte-of o b h = ap bin (facing-facing o (bits_of 8 b)) ∙ bin-bits_of 8 b ∙ mod-eq_of_lt h

pub bits_of-group : (o : Order) (g : List Bool) → length g ≡ 8 → facing o (byte_bits (group_number o g)) ≡ g
unfolding bits_of byte_bits laid_out
bits_of-group o g l =
    let small : group_number o g < 256 = rw l at (group_number-lt o g) in
    let same : bits_of 8 (group_number o g) ≡ facing o g =
    bin-inj (bits_of 8 (group_number o g)) (facing o g) (length-bits_of 8 (group_number o g) ∙ sym (length-facing o g ∙ l))
    (bin-bits_of 8 (group_number o g) ∙ mod-eq_of_lt small) in
    ap (facing o) same ∙ facing-facing o g

pub length-flow : (o : Order) (bs : List ℕ) → length (flow o bs) ≡ 8 * length bs
unfolding laid_out
length-flow o [] = refl
length-flow o (b ∷ bs) =
    rw (length-append (facing o (byte_bits b)) (flow o bs), length-facing o (byte_bits b), length-byte_bits b, length-flow o bs) (omega arith)

pub flow-append : (o : Order) (xs ys : List ℕ) → flow o (xs ++ ys) ≡ flow o xs ++ flow o ys
flow-append o xs ys = flat_map-append (λ b. facing o (byte_bits b)) xs ys

-- ---- runs
pub length-filled : (g : List Bool) → length g ≤ 8 → length (filled g) ≡ 8
unfolding laid_out
length-filled g l = length-append g (replicate (8 - length g) false) ∙ omega (arith, length-replicate (8 - length g) false)

pub filled_whole : (g : List Bool) → length g ≡ 8 → filled g ≡ g
unfolding laid_out
filled_whole g l = rw l (append-nil g)

same_from_same_order : (o p : Order) → same_order o p ≡ true → o ≡ p
unfolding laid_out
same_from_same_order Msb0 Msb0 e = refl
same_from_same_order Lsb0 Lsb0 e = refl
same_from_same_order Msb0 Lsb0 e = cc
same_from_same_order Lsb0 Msb0 e = cc

pub same_order_self : (o : Order) → same_order o o ≡ true
unfolding laid_out
same_order_self Msb0 = refl
same_order_self Lsb0 = refl

-- two pieces of one order are one
in_front-join : (o : Order) (s t : List Bool) (ps : List Piece) → in_front o s (in_front o t ps) ≡ in_front o (s ++ t) ps
unfolding laid_out
in_front-join o [] t ps = refl
in_front-join o (b ∷ s) [] ps = sym (ap (λ x. in_front o x ps) (append-nil (b ∷ s)))
in_front-join o (b ∷ s) (c ∷ t) [] = rw (same_order_self o) refl
in_front-join o (b ∷ s) (c ∷ t) (p ∷ ps) = go (same_order o p.order) refl
  where
    go : (x : Bool) → same_order o p.order ≡ x → in_front o (b ∷ s) (in_front o (c ∷ t) (p ∷ ps)) ≡ in_front o ((b ∷ s) ++ (c ∷ t)) (p ∷ ps)
    go true e = rw e (rw (same_order_self o) (ap (λ x. piece o x ∷ ps) (sym (append_assoc (b ∷ s) (c ∷ t) p.bits))))
    go false e = rw e (rw (same_order_self o) refl)

pub laid_out-join : (o : Order) (s t : List Bool) (qs : List Piece) → laid_out (piece o s ∷ piece o t ∷ qs) ≡ laid_out (piece o (s ++ t) ∷ qs)
unfolding laid_out
laid_out-join o s t qs = ap (flat_map run_bytes) (in_front-join o s t (runs qs))

run_bytes-full : (o : Order) (g t : List Bool) → length g ≡ 8 → run_bytes (piece o (g ++ t)) ≡ group_number o g ∷ run_bytes (piece o t)
unfolding laid_out
run_bytes-full o g t l = rw (chunks-full g t l) (rw (filled_whole g l) refl)

run_bytes-one : (o : Order) (g : List Bool) → length g ≡ 8 → run_bytes (piece o g) ≡ group_number o g ∷ []
unfolding laid_out
run_bytes-one o g l = ap (λ x. run_bytes (piece o x)) (sym (append-nil g)) ∙ run_bytes-full o g [] l

in_front-group : (o : Order) (g : List Bool) (ps : List Piece) → length g ≡ 8 → flat_map run_bytes (in_front o g ps) ≡ group_number o g ∷ flat_map run_bytes ps
unfolding laid_out
in_front-group o [] ps l = absurd (omega arith)
in_front-group o (b ∷ g) [] l = append-nil (run_bytes (piece o (b ∷ g))) ∙ run_bytes-one o (b ∷ g) l
in_front-group o (b ∷ g) (p ∷ ps) l = go (same_order o p.order) refl
  where
    go : (x : Bool) → same_order o p.order ≡ x → flat_map run_bytes (in_front o (b ∷ g) (p ∷ ps)) ≡ group_number o (b ∷ g) ∷ flat_map run_bytes (p ∷ ps)
    go true e = rw (e, same_from_same_order o p.order e) (ap (λ x. x ++ flat_map run_bytes ps) (run_bytes-full p.order (b ∷ g) p.bits l))
    go false e = rw e (ap (λ x. x ++ (run_bytes p ++ flat_map run_bytes ps)) (run_bytes-one o (b ∷ g) l))

-- a whole group in front is a byte
pub laid_out-group : (o : Order) (g t : List Bool) (qs : List Piece) → length g ≡ 8 → laid_out (piece o (g ++ t) ∷ qs) ≡ group_number o g ∷ laid_out (piece o t ∷ qs)
unfolding laid_out
laid_out-group o g t qs l = sym (laid_out-join o g t qs) ∙ in_front-group o g (in_front o t (runs qs)) l

-- all whole groups in front are bytes
pub laid_out_cut : (o : Order) (t : List Bool) (qs : List Piece) → laid_out (piece o t ∷ qs) ≡ emitted o t ++ laid_out (piece o (remainder t) ∷ qs)
unfolding laid_out
laid_out_cut o t qs = by_groups (λ t. laid_out (piece o t ∷ qs) ≡ emitted o t ++ laid_out (piece o (remainder t) ∷ qs)) refl
    (λ s p l. rw (emitted-short o s l, remainder-short s l) refl)
    (λ g t l h. rw (emitted-full o g t l, remainder-full g t l, laid_out-group o g t qs l) (ap (λ x. group_number o g ∷ x) h))
    t

-- the last short group is filled with zeros
pub laid_out_end : (o : Order) (s : List Bool) → 0 < length s → length s < 8 → laid_out (piece o s ∷ []) ≡ group_number o (filled s) ∷ []
unfolding laid_out
laid_out_end o [] p l = absurd (omega arith)
laid_out_end o (b ∷ s) p l = rw (chunks-short (b ∷ s) p l) refl

-- a piece that is not empty is at the beginning of the first run
pub laid_out_front : (o : Order) (s : List Bool) (qs : List Piece) → 0 < length s → (x : List Bool) × (y : List ℕ) × (laid_out (piece o s ∷ qs) ≡ run_bytes (piece o (s ++ x)) ++ y)
unfolding laid_out
laid_out_front o s qs p = go s (runs qs) p
  where
    go : (s : List Bool) (ps : List Piece) → 0 < length s → (x : List Bool) × (y : List ℕ) × (flat_map run_bytes (in_front o s ps) ≡ run_bytes (piece o (s ++ x)) ++ y)
    go [] ps p = absurd (omega arith)
    go (b ∷ s) [] p = ([], [], ap (λ x. run_bytes (piece o x) ++ []) (sym (append-nil (b ∷ s))))
    go (b ∷ s) (q ∷ ps) p = ⊎_elim
        (λ (e : same_order o q.order ≡ true). (q.bits, flat_map run_bytes ps, rw e refl))
        (λ (e : same_order o q.order ≡ false). ([], flat_map run_bytes (q ∷ ps), rw e (ap (λ x. run_bytes (piece o x) ++ flat_map run_bytes (q ∷ ps)) (sym (append-nil (b ∷ s))))))
        (cases_Bool (same_order o q.order))

-- a run's bytes hold its bits, and zeros after them
pub flow-run : (o : Order) (s : List Bool) → (z : List Bool) × (flow o (run_bytes (piece o s)) ≡ s ++ z)
unfolding laid_out
flow-run o s = by_groups (λ s. (z : List Bool) × (flow o (run_bytes (piece o s)) ≡ s ++ z))
    ([], refl)
    (λ s p l. (
      replicate (8 - length s) false,
      rw (chunks-short s p l) (append-nil (facing o (byte_bits (group_number o (filled s)))) ∙ bits_of-group o (filled s) (length-filled s (omega arith))),
    ))
    (λ g t l h. (h.0, rw (run_bytes-full o g t l) (rw (bits_of-group o g l, append_assoc, h.1) refl)))
    s
