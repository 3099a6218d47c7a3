-- Where the bits of aligned pieces are in the bytes that they lay out.
use Rattle.std.proofs.Common.{ℕ, zero, suc, ◌+◌, ◌*◌, ◌-◌, ◌%◌, ◌<◌, ◌≤◌, ◌≡◌, ◌⊎◌, Bool, false, cond, List, [], ◌∷◌, ◌++◌, length, map, take, drop, get_or, All, Some, refl, ap, sym, ◌∙◌, subst, ⊎_elim, arith, append_assoc, append-nil, length-append, length-drop, length-take-le, take-append-drop}
use Rattle.std.specs.List.{slice_get, flat_map}
use Rattle.std.proofs.lemmas.Option.{same_Some}
use Rattle.std.proofs.lemmas.List.{nil_from_length, drop-drop, drop-append-le, drop_at, get_or-take, get_or-drop, take_all}
use Rattle.std.proofs.lemmas.List.Concat.{flat_map-append}
use Rattle.std.proofs.lemmas.List.Elements.{All-nil, All-cons, All-append}
use Rattle.deku_bits.specs.declared.ctx.Order.{Order}
use Rattle.deku_bits.specs.declared.ctx.Order.TheVariants.{Msb0, Lsb0}
use Rattle.deku_bits.specs.Bits.{byte_bits, facing, groups, group_number}
use Rattle.deku_bits.specs.Streams.{Stream, flow, seen, Has, taken, left, fresh}
use Rattle.deku_bits.specs.Pieces.{Piece, piece, shape, Aligned, AlignedFrom, total, last_order, filled, run_bytes, runs, laid_out, cleared}
use Rattle.deku_bits.specs.Symmetry.{Takes}
use Rattle.deku_bits.proofs.Binary.{length-facing, facing-facing}
use Rattle.deku_bits.proofs.Cuts.{length-flow}
use Rattle.deku_bits.proofs.Reading.{read_law, left_none}
use Rattle.deku_bits.proofs.Rewriting.{rewrite_law}
use Rattle.deku_fields.specs.Places.{printed_at, printed}
use Rattle.deku_fields.proofs.Printing.{eight, flow_bit, cleared_bit, filled_below}
use Rattle.deku_fields.proofs.Meeting.{printed_twice}

-- ---- facing and flowing
facing_none : (o : Order) → facing o [] ≡ []
facing_none Msb0 = refl
facing_none Lsb0 = refl

flow-drop : (o : Order) (n : ℕ) (bs : List ℕ) → flow o (drop n bs) ≡ drop (8 * n) (flow o bs)
flow-drop o zero bs = refl
flow-drop o (suc n) [] = let e : 8 * suc n ≡ suc (7 + 8 * n) = omega arith in rw e refl
flow-drop o (suc n) (b ∷ bs) =
    let e : 8 * suc n ≡ 8 + 8 * n = omega arith in
    flow-drop o n bs ∙ ap (λ x. drop (8 * n) x) (sym (drop_at (facing o (byte_bits b)) (flow o bs) 8 (eight o b)))
    ∙ drop-drop (8 * n) 8 (flow o (b ∷ bs)) ∙ ap (λ x. drop x (flow o (b ∷ bs))) (sym e)

-- ---- a stream that is left
-- n bits were taken from B, the last of them in the order o, and S is left
record At (n : ℕ) (o : Order) (B : List ℕ) (S : Stream) : Type 0 where
  within : groups n ≤ length B
  window : n + length S.window ≡ 8 * groups n
  behind : S.bytes ≡ drop (groups n) B
  sees : seen o S ≡ drop n (flow o B)

at_first : (B : List ℕ) → At 0 Msb0 B (fresh B)
at_first B = record { within = omega arith; window = refl; behind = refl; sees = refl }

-- at a byte's boundary another order may follow
turned : (n : ℕ) (o q : Order) (B : List ℕ) (S : Stream) → n % 8 ≡ 0 → At n o B S → At n q B S
turned n o q B S z a =
    let none : S.window ≡ [] = nil_from_length S.window (omega (arith, a.window)) in
    let e : 8 * groups n ≡ n = omega arith in
    record {
      within = a.within;
      window = a.window;
      behind = a.behind;
      sees = ap (λ w. facing q w ++ flow q S.bytes) none ∙ ap (λ w. w ++ flow q S.bytes) (facing_none q) ∙ ap (flow q) a.behind
          ∙ flow-drop q (groups n) B ∙ ap (λ x. drop x (flow q B)) e;
    }

-- w bits more
stepped : (n w : ℕ) (o : Order) (B : List ℕ) (S : Stream) → Has w S → At n o B S → At (n + w) o B (left o w S)
unfolding left
stepped n w o B S h a =
    let t : ℕ = groups (w - length S.window) in
    let X : List ℕ = take t S.bytes in
    let Y : List Bool = facing o S.window ++ flow o X in
    let behind : length S.bytes ≡ length B - groups n = ap length a.behind ∙ length-drop (groups n) B in
    let some : t ≤ length S.bytes = omega arith in
    let lx : length X ≡ t = length-take-le t S.bytes some in
    let ly : length Y ≡ length S.window + 8 * t = omega (arith, length-append (facing o S.window) (flow o X), length-facing o S.window, length-flow o X) in
    let more : groups (n + w) ≡ groups n + t = omega (arith, a.window) in
    record {
      within = omega (arith, a.within);
      window = omega (arith, length-facing o (drop w Y), length-drop w Y, a.window);
      behind = ap (λ x. drop t x) a.behind ∙ drop-drop t (groups n) B ∙ ap (λ x. drop x B) (sym more);
      sees = ap (λ x. x ++ flow o (drop t S.bytes)) (facing-facing o (drop w Y))
          ∙ sym (drop-append-le w Y (flow o (drop t S.bytes)) (omega arith))
          ∙ ap (λ x. drop w x) (append_assoc (facing o S.window) (flow o X) (flow o (drop t S.bytes))
          ∙ ap (λ x. facing o S.window ++ x) (sym (flat_map-append (λ b. facing o (byte_bits b)) X (drop t S.bytes)) ∙ ap (flow o) (take-append-drop t S.bytes))
          ∙ a.sees)
          ∙ drop-drop w n (flow o B);
    }

-- ---- aligned pieces
turned_to : (n w : ℕ) (o q : Order) (fs : List (Order × ℕ)) (B : List ℕ) (S : Stream) → 0 < w → AlignedFrom n o ((q, w) ∷ fs) → At n o B S → At n q B S
turned_to n zero o q fs B S p h a = absurd (omega arith)
turned_to n (suc w) o q fs B S p h a = ⊎_elim (λ (z : n % 8 ≡ 0). turned n o q B S z a) (λ (e : q ≡ o). subst (λ x. At n x B S) (sym e) a) h.0

-- one piece further
record Further (n w : ℕ) (o q : Order) (fs : List (Order × ℕ)) (B : List ℕ) (S : Stream) : Type 0 where
  order : Order
  at_next : At (n + w) order B (left q w S)
  aligned : AlignedFrom (n + w) order fs
  last : last_order o ((q, w) ∷ fs) ≡ last_order order fs

further : (n w : ℕ) (o q : Order) (fs : List (Order × ℕ)) (B : List ℕ) (S : Stream) → At n o B S → AlignedFrom n o ((q, w) ∷ fs) → Has w S → Further n w o q fs B S
further n zero o q fs B S a h k =
    let e : n ≡ n + zero = omega arith in
    record {
      order = o;
      at_next = subst (λ x. At x o B (left q zero S)) e (subst (λ X. At n o B X) (sym (left_none q S)) a);
      aligned = subst (λ x. AlignedFrom x o fs) e h;
      last = refl;
    }
further n (suc w) o q fs B S a h k = record {
  order = q;
  at_next = stepped n (suc w) q B S k (turned_to n (suc w) o q fs B S (omega arith) h a);
  aligned = h.1;
  last = refl;
}

-- a bit of the piece that is taken next
next_bit : (p : Piece) (n : ℕ) (o : Order) (fs : List (Order × ℕ)) (B : List ℕ) (S : Stream) (j : ℕ) → At n o B S → AlignedFrom n o (shape p ∷ fs) → Has (length p.bits) S
    → taken p.order (length p.bits) S ≡ p.bits → j < length p.bits → printed B (printed_at p.order (n + j)) ≡ cond (get_or p.bits j false) 1 0
unfolding taken
next_bit p n o fs B S j a h k t l =
    let q : Order = p.order in
    let w : ℕ = length p.bits in
    let b : At n q B S = turned_to n w o q fs B S (omega arith) h a in
    let behind : length S.bytes ≡ length B - groups n = ap length a.behind ∙ length-drop (groups n) B in
    sym (ap (λ s. cond (get_or s j false) 1 0) (sym t)
    ∙ ap (λ x. cond x 1 0) (get_or-take w (seen q S) j false l ∙ ap (λ s. get_or s j false) b.sees ∙ get_or-drop n (flow q B) j false)
    ∙ flow_bit q B (n + j) (omega (arith, a.within, a.window)))

-- each bit of each piece
bits_from : (ps : List Piece) (n : ℕ) (o : Order) (B : List ℕ) (S T : Stream) → At n o B S → AlignedFrom n o (map shape ps) → Takes ps S T
    → (m j : ℕ) (p : Piece) → slice_get ps m ≡ Some p → j < length p.bits
    → printed B (printed_at p.order (n + (total (take m (map shape ps)) + j))) ≡ cond (get_or p.bits j false) 1 0
bits_from [] n o B S T a h t m j p e l = cc
bits_from (q ∷ ps) n o B S T a h t zero j p e l =
    subst (λ x. j < length x.bits → printed B (printed_at x.order (n + (0 + j))) ≡ cond (get_or x.bits j false) 1 0) (same_Some q p e)
    (λ k. let z : 0 + j ≡ j = omega arith in
    ap (λ x. printed B (printed_at q.order (n + x))) z ∙ next_bit q n o (map shape ps) B S j a h t.0 t.1 k) l
bits_from (q ∷ ps) n o B S T a h t (suc m) j p e l =
    let f = further n (length q.bits) o q.order (map shape ps) B S a h t.0 in
    let u : ℕ = total (take m (map shape ps)) in
    let same : n + (length q.bits + u + j) ≡ n + length q.bits + (u + j) = omega arith in
    ap (λ x. printed B (printed_at p.order x)) same ∙ bits_from ps (n + length q.bits) f.order B (left q.order (length q.bits) S) T f.at_next f.aligned t.2 m j p e l

-- what is left after all pieces
at_last : (ps : List Piece) (n : ℕ) (o : Order) (B : List ℕ) (S T : Stream) → At n o B S → AlignedFrom n o (map shape ps) → Takes ps S T
    → At (n + total (map shape ps)) (last_order o (map shape ps)) B T
at_last [] n o B S T a h t = let e : n ≡ n + 0 = omega arith in subst (λ x. At x o B T) e (subst (λ X. At n o B X) t a)
at_last (q ∷ ps) n o B S T a h t =
    let f = further n (length q.bits) o q.order (map shape ps) B S a h t.0 in
    let u : ℕ = total (map shape ps) in
    let same : n + length q.bits + u ≡ n + (length q.bits + u) = omega arith in
    subst (λ x. At x (last_order o (map shape (q ∷ ps))) B T) same
    (subst (λ x. At (n + length q.bits + u) x B T) (sym f.last) (at_last ps (n + length q.bits) f.order B (left q.order (length q.bits) S) T f.at_next f.aligned t.2))

-- ---- what is laid out
-- bits of a piece are as its order meets them, after those of the pieces before it
pub piece_bit : (ps : List Piece) (m j : ℕ) (p : Piece) → Aligned (map shape ps) → slice_get ps m ≡ Some p → j < length p.bits
    → printed (laid_out ps) (printed_at p.order (total (take m (map shape ps)) + j)) ≡ cond (get_or p.bits j false) 1 0
piece_bit ps m j p h e l =
    let r = read_law ps [] h in
    let t : Takes ps (fresh (laid_out ps)) r.0 = subst (λ x. Takes ps (fresh x) r.0) (append-nil (laid_out ps)) r.1 in
    let n : ℕ = total (take m (map shape ps)) + j in
    let z : n ≡ 0 + n = omega arith in
    ap (λ x. printed (laid_out ps) (printed_at p.order x)) z ∙ bits_from ps 0 Msb0 (laid_out ps) (fresh (laid_out ps)) r.0 (at_first (laid_out ps)) h t m j p e l

-- after the last bit there are zeros
pub padding_bit : (ps : List Piece) (k : ℕ) → Aligned (map shape ps) → All (λ b. b < 256) (laid_out ps) → k < 8 * length (laid_out ps)
    → total (map shape ps) ≤ printed_at (last_order Msb0 (map shape ps)) k → printed (laid_out ps) k ≡ 0
padding_bit ps k h small below behind =
    let L : List ℕ = laid_out ps in
    let n : ℕ = total (map shape ps) in
    let o : Order = last_order Msb0 (map shape ps) in
    let r = read_law ps [] h in
    let T : Stream = r.0 in
    let t : Takes ps (fresh L) T = subst (λ x. Takes ps (fresh x) T) (append-nil L) r.1 in
    let a : At (0 + n) o L T = at_last ps 0 Msb0 L (fresh L) T (at_first L) h t in
    let none : length T.bytes ≡ 0 = ap length r.2 in
    let all : length L ≡ groups (0 + n) = omega (arith, a.within, ap length a.behind, length-drop (groups (0 + n)) L) in
    let same : L ≡ cleared o (length T.window) L =
    rewrite_law ps L T h small t ∙ ap (cleared o (length T.window)) (take_all (length L - length T.bytes) L (omega arith)) in
    ap (printed L) (sym (printed_twice o k)) ∙ ap (λ x. printed x (printed_at o (printed_at o k))) same
    ∙ cleared_bit o (length T.window) L (printed_at o k) (omega (arith, a.window)) (inside o k (length L) below) (omega (arith, a.window))
  where
    inside : (o : Order) (k n : ℕ) → k < 8 * n → printed_at o k < 8 * n
    inside Msb0 k n h = h
    inside Lsb0 k n h = omega arith

-- ---- each byte is one
run_small : (o : Order) (s : List Bool) → All (λ b. b < 256) (run_bytes (piece o s))
run_small o [] = All-nil (λ b. b < 256)
run_small o (a ∷ b ∷ c ∷ d ∷ e ∷ f ∷ g ∷ h ∷ s) =
    let x : List Bool = a ∷ b ∷ c ∷ d ∷ e ∷ f ∷ g ∷ h ∷ [] in
    All-cons (λ b. b < 256) (group_number o (filled x)) (run_bytes (piece o s)) (filled_below o x (omega arith)) (run_small o s)
run_small o s = All-cons (λ b. b < 256) (group_number o (filled s)) [] (filled_below o s (omega arith)) (All-nil (λ b. b < 256))

runs_small : (ps : List Piece) → All (λ b. b < 256) (flat_map run_bytes ps)
runs_small [] = All-nil (λ b. b < 256)
runs_small (p ∷ ps) = All-append (λ b. b < 256) (run_bytes p) (flat_map run_bytes ps) (run_small p.order p.bits) (runs_small ps)

pub laid_small : (ps : List Piece) → All (λ b. b < 256) (laid_out ps)
unfolding laid_out
laid_small ps = runs_small (runs ps)
