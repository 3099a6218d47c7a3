-- Pieces that were taken from bytes, laid out again.
use Rattle.std.proofs.Common.{ℕ, zero, suc, ◌+◌, ◌*◌, ◌-◌, ◌/◌, ◌%◌, ◌<◌, ◌≤◌, ◌≡◌, Bool, List, [], ◌∷◌, ◌++◌, length, map, take, drop, refl, ap, ap₂, sym, ◌∙◌, subst, ⊎_elim, arith, append_assoc, append-nil, length-append, length-drop, take-add, All}
use Rattle.std.proofs.lemmas.List.{take_all, take_at, drop_at, take-append-le}
use Rattle.std.proofs.lemmas.List.Elements.{All-head, All-tail, All-drop, All-take, All-same}
use Rattle.deku_stream.specs.declared.ctx.Order.{Order}
use Rattle.deku_stream.specs.declared.ctx.Order.TheVariants.{Msb0}
use Rattle.deku_stream.specs.Bits.{byte_bits, facing, group_number}
use Rattle.deku_stream.specs.Streams.{Stream, Has, left, taken}
use Rattle.deku_stream.specs.Pieces.{Piece, piece, filled, laid_out, shape, AlignedFrom}
use Rattle.deku_stream.specs.Writers.{remainder}
use Rattle.deku_stream.specs.Pieces.{last_order, cleared}
use Rattle.deku_stream.specs.Symmetry.{Takes, RewriteLaw}
use Rattle.deku_stream.proofs.Binary.{length-facing}
use Rattle.deku_stream.proofs.Groups.{by_groups}
use Rattle.deku_stream.proofs.Cuts.{filled_whole, emitted, emitted-full, emitted-short, remainder-full, remainder-short, flow, length-byte_bits, byte-of, length-remainder, laid_out-join, laid_out_cut, laid_out_end}
use Rattle.deku_stream.proofs.Reading.{spot, spot_zero, seen-spot, left-spot, left_none}

abbrev IsByte : ℕ → Type 0
IsByte b = b < 256

-- the groups of a list that was taken from bytes are those bytes
record IsFrom (o : Order) (t : List Bool) (bs : List ℕ) : Type 0 where
  bytes : bs ≡ emitted o t ++ drop (length t / 8) bs
  behind : take (length (remainder t)) (flow o (drop (length t / 8) bs)) ≡ remainder t

is_from : (o : Order) (t : List Bool) (bs : List ℕ) → All IsByte bs → length t ≤ 8 * length bs → take (length t) (flow o bs) ≡ t → IsFrom o t bs
unfolding taken left laid_out
is_from o t = by_groups (λ t. (bs : List ℕ) → All IsByte bs → length t ≤ 8 * length bs → take (length t) (flow o bs) ≡ t → IsFrom o t bs)
    (λ bs all room e. record { bytes = refl; behind = refl })
    (λ s p l bs all room e.
    let q : length s / 8 ≡ 0 = omega arith in
    record {
      bytes = rw (emitted-short o s l, q) refl;
      behind = rw (remainder-short s l, q) e;
    })
    (λ g t l ih bs all room e. more g t l ih bs all room e)
    t
  where
    more : (g t : List Bool) → length g ≡ 8 → ((bs : List ℕ) → All IsByte bs → length t ≤ 8 * length bs → take (length t) (flow o bs) ≡ t → IsFrom o t bs)
        → (bs : List ℕ) → All IsByte bs → length (g ++ t) ≤ 8 * length bs → take (length (g ++ t)) (flow o bs) ≡ g ++ t → IsFrom o (g ++ t) bs
    more g t l ih [] all room e = absurd (omega (arith, length-append g t))
    more g t l ih (b ∷ bs) all room e =
        let F : List Bool = facing o (byte_bits b) in
        let lf : length F ≡ 8 = length-facing o (byte_bits b) ∙ length-byte_bits b in
        let n : length (g ++ t) ≡ length F + length t = omega (arith, length-append g t) in
        let cut : F ++ take (length t) (flow o bs) ≡ g ++ t =
        ap₂ (λ x y. x ++ take (length t) y) (sym (take_at F (flow o bs) (length F) refl)) (sym (drop_at F (flow o bs) (length F) refl))
        ∙ sym (take-add (length F) (length t) (F ++ flow o bs))
        ∙ ap (λ x. take x (F ++ flow o bs)) (sym n) ∙ e in
        let first : F ≡ g = sym (take_at F (take (length t) (flow o bs)) 8 lf) ∙ ap (take 8) cut ∙ take_at g t 8 l in
        let behind : take (length t) (flow o bs) ≡ t = sym (drop_at F (take (length t) (flow o bs)) 8 lf) ∙ ap (drop 8) cut ∙ drop_at g t 8 l in
        let r = ih bs (All-tail IsByte b bs all) (omega (arith, length-append g t)) behind in
        let q : length (g ++ t) / 8 ≡ suc (length t / 8) = omega (arith, length-append g t) in
        let same : group_number o g ≡ b = ap (group_number o) (sym first) ∙ byte-of o b (All-head IsByte b bs all) in
        record {
          bytes = rw (emitted-full o g t l, same, q) (ap (λ x. b ∷ x) r.bytes);
          behind = rw (remainder-full g t l, q) r.behind;
        }

-- where taking ends: the bytes that are wholly taken, and the bits taken of the first one ahead
record Ends (o : Order) (P : List Bool) (ps : List Piece) (bs : List ℕ) (T : Stream) : Type 0 where
  given : List ℕ
  begun : List Bool
  ahead : List ℕ
  lays : laid_out (piece o P ∷ ps) ≡ given ++ laid_out (piece (last_order o (map shape ps)) begun ∷ [])
  splits : bs ≡ given ++ ahead
  short : length begun < 8
  reads : take (length begun) (flow (last_order o (map shape ps)) ahead) ≡ begun
  stands : T ≡ spot (last_order o (map shape ps)) (length begun) ahead

abbrev EndsFrom : List Piece → Type 0
EndsFrom ps = (n : ℕ) (o : Order) (P : List Bool) (bs : List ℕ) (T : Stream) → length P < 8 → n % 8 ≡ length P → AlignedFrom n o (map shape ps)
    → All IsByte bs → length P ≤ 8 * length bs → take (length P) (flow o bs) ≡ P → Takes ps (spot o (length P) bs) T → Ends o P ps bs T

room-spot : (o : Order) (n p : ℕ) (bs : List ℕ) → p < 8 → p ≤ 8 * length bs → Has n (spot o p bs) → p + n ≤ 8 * length bs
unfolding spot taken left laid_out
room-spot o n p [] h k room = omega arith
room-spot o n zero (b ∷ bs) h k room = omega arith
room-spot o n (suc p) (b ∷ bs) h k room =
    omega (arith, length-facing o (drop (suc p) (facing o (byte_bits b))), length-drop (suc p) (facing o (byte_bits b)), length-facing o (byte_bits b), length-byte_bits b)

onward : (o : Order) (P s : List Bool) (ps : List Piece) → EndsFrom ps → (n : ℕ) (bs : List ℕ) (T : Stream) → length P < 8 → n % 8 ≡ length P → 0 < length s → AlignedFrom (n + length s) o (map shape ps)
    → All IsByte bs → length P ≤ 8 * length bs → take (length P) (flow o bs) ≡ P → Takes (piece o s ∷ ps) (spot o (length P) bs) T → Ends o P (piece o s ∷ ps) bs T
unfolding taken left laid_out
onward o P [] ps ih n bs T l c p h all k e ts = absurd (omega arith)
onward o P (b ∷ s') ps ih n bs T l c p h all k e ts =
    let s : List Bool = b ∷ s' in
    let t : List Bool = P ++ s in
    let lt : length t ≡ length P + length s = length-append P s in
    let room : length P + length s ≤ 8 * length bs = room-spot o (length s) (length P) bs l k ts.0 in
    let second : take (length s) (drop (length P) (flow o bs)) ≡ s = ap (take (length s)) (sym (seen-spot o (length P) bs l)) ∙ ts.1 in
    let front : take (length t) (flow o bs) ≡ t =
    ap (λ x. take x (flow o bs)) lt ∙ take-add (length P) (length s) (flow o bs) ∙ ap₂ (λ x y. x ++ y) e second in
    let f = is_from o t bs all (omega arith) front in
    let D : List ℕ = drop (length t / 8) bs in
    let lr : length (remainder t) ≡ length t % 8 = length-remainder t in
    let at : left o (length s) (spot o (length P) bs) ≡ spot o (length (remainder t)) D =
    left-spot o (length s) (length P) bs l room
    ∙ ap₂ (λ x y. spot o x (drop y bs)) (ap (λ x. x % 8) (sym lt) ∙ sym lr) (ap (λ x. x / 8) (sym lt)) in
    let r = ih (n + length s) o (remainder t) D T (omega arith) (omega arith) h (All-drop IsByte (length t / 8) bs all)
    (omega (arith, length-drop (length t / 8) bs)) f.behind (rw at at ts.2) in
    record {
      given = emitted o t ++ r.given;
      begun = r.begun;
      ahead = r.ahead;
      lays = laid_out-join o P s ps ∙ laid_out_cut o t ps ∙ ap (λ x. emitted o t ++ x) r.lays ∙ sym (append_assoc (emitted o t) r.given (laid_out (piece (last_order o (map shape ps)) r.begun ∷ [])));
      splits = f.bytes ∙ ap (λ x. emitted o t ++ x) r.splits ∙ sym (append_assoc (emitted o t) r.given r.ahead);
      short = r.short;
      reads = r.reads;
      stands = r.stands;
    }

more : (q : Order) (s : List Bool) (ps : List Piece) → EndsFrom ps → (n : ℕ) (o : Order) (P : List Bool) (bs : List ℕ) (T : Stream) → length P < 8 → n % 8 ≡ length P → AlignedFrom n o ((q, length s) ∷ map shape ps)
    → All IsByte bs → length P ≤ 8 * length bs → take (length P) (flow o bs) ≡ P → Takes (piece q s ∷ ps) (spot o (length P) bs) T → Ends o P (piece q s ∷ ps) bs T
unfolding taken left laid_out
more q [] ps ih n o P bs T l c h all k e ts =
    let r = ih n o P bs T l c h all k e (rw (left_none q (spot o (length P) bs)) at ts.2) in
    record { given = r.given; begun = r.begun; ahead = r.ahead; lays = r.lays; splits = r.splits; short = r.short; reads = r.reads; stands = r.stands }
more q (b ∷ s) ps ih n o P bs T l c h all k e ts = ⊎_elim
    (λ (z : n % 8 ≡ 0). boundary P (sym c ∙ z) z ts)
    (λ (z : q ≡ o).
    (subst (λ x. take (length P) (flow x bs) ≡ P → Takes (piece q (b ∷ s) ∷ ps) (spot x (length P) bs) T → Ends x P (piece q (b ∷ s) ∷ ps) bs T) z
    (onward q P (b ∷ s) ps ih n bs T l c (omega arith) h.1 all k)) e ts)
    h.0
  where
    boundary : (P : List Bool) → length P ≡ 0 → n % 8 ≡ 0 → Takes (piece q (b ∷ s) ∷ ps) (spot o (length P) bs) T → Ends o P (piece q (b ∷ s) ∷ ps) bs T
    boundary [] z m ts =
        let r = onward q [] (b ∷ s) ps ih n bs T (omega arith) m (omega arith) h.1 all (omega arith) refl
        (subst (λ S. Takes (piece q (b ∷ s) ∷ ps) S T) (spot_zero o bs ∙ sym (spot_zero q bs)) ts) in
        record { given = r.given; begun = r.begun; ahead = r.ahead; lays = r.lays; splits = r.splits; short = r.short; reads = r.reads; stands = r.stands }
    boundary (x ∷ P) z m ts = absurd (omega arith)

end : EndsFrom []
unfolding taken left laid_out
end n o P bs T l c h all k e ts = record { given = []; begun = P; ahead = bs; lays = refl; splits = refl; short = l; reads = e; stands = sym ts }

ends_from : (ps : List Piece) → EndsFrom ps
unfolding taken left laid_out
ends_from [] n o P bs T l c h all k e ts = end n o P bs T l c h all k e ts
ends_from (p ∷ ps) n o P bs T l c h all k e ts = more p.order p.bits ps (ends_from ps) n o P bs T l c h all k e ts

-- ---- the bytes taken, with the bits of the last one that were not taken zero
cleared_none : (o : Order) (bs : List ℕ) → All IsByte bs → cleared o 0 bs ≡ bs
unfolding taken left laid_out
cleared_none o [] all = refl
cleared_none o (b ∷ []) all =
    let F : List Bool = facing o (byte_bits b) in
    let lf : length F ≡ 8 = length-facing o (byte_bits b) ∙ length-byte_bits b in
    ap (λ x. x ∷ []) (ap (λ s. group_number o (filled s)) (take_all 8 F (omega arith)) ∙ ap (group_number o) (filled_whole F lf) ∙ byte-of o b (All-head IsByte b [] all))
cleared_none o (b ∷ c ∷ bs) all = ap (λ x. b ∷ x) (cleared_none o (c ∷ bs) (All-tail IsByte b (c ∷ bs) all))

cleared-append : (o : Order) (n : ℕ) (xs : List ℕ) (b : ℕ) → cleared o n (xs ++ b ∷ []) ≡ xs ++ cleared o n (b ∷ [])
unfolding taken left laid_out
cleared-append o n [] b = refl
cleared-append o n (x ∷ []) b = refl
cleared-append o n (x ∷ y ∷ xs) b = ap (λ z. x ∷ z) (cleared-append o n (y ∷ xs) b)

taken_bytes : (o : Order) (given : List ℕ) (begun : List Bool) (ahead : List ℕ) → All IsByte (given ++ ahead) → length begun < 8 → take (length begun) (flow o ahead) ≡ begun
    → given ++ laid_out (piece o begun ∷ []) ≡ cleared o (length (spot o (length begun) ahead).window) (take (length (given ++ ahead) - length (spot o (length begun) ahead).bytes) (given ++ ahead))
unfolding spot taken left laid_out
taken_bytes o given [] ahead all l e =
    let n : length given ≡ length (given ++ ahead) - length ahead = omega (arith, length-append given ahead) in
    let t : take (length (given ++ ahead) - length ahead) (given ++ ahead) ≡ given = take_at given ahead (length (given ++ ahead) - length ahead) n in
    append-nil given
    ∙ sym (cleared_none o given (All-same IsByte given (take (length (given ++ ahead) - length ahead) (given ++ ahead)) (sym t) (All-take IsByte (length (given ++ ahead) - length ahead) (given ++ ahead) all)))
    ∙ ap (cleared o 0) (sym t)
    ∙ ap (λ S. cleared o (length S.window) (take (length (given ++ ahead) - length S.bytes) (given ++ ahead))) (sym (spot_zero o ahead))
taken_bytes o given (b ∷ begun) [] all l e = absurd (omega (arith, ap length e))
taken_bytes o given (b ∷ begun) (x ∷ ahead) all l e =
    let F : List Bool = facing o (byte_bits x) in
    let lf : length F ≡ 8 = length-facing o (byte_bits x) ∙ length-byte_bits x in
    let p : ℕ = suc (length begun) in
    let w : ℕ = length (facing o (drop p F)) in
    let lw : w ≡ 8 - p = length-facing o (drop p F) ∙ length-drop p F ∙ ap (λ n. n - p) lf in
    let m : ℕ = length (given ++ x ∷ ahead) - length ahead in
    let n : length (given ++ x ∷ []) ≡ m = omega (arith, length-append given (x ∷ ahead), length-append given (x ∷ [])) in
    let split : given ++ x ∷ ahead ≡ (given ++ x ∷ []) ++ ahead = sym (append_assoc given (x ∷ []) ahead) in
    let t : take m (given ++ x ∷ ahead) ≡ given ++ x ∷ [] = ap (take m) split ∙ take_at (given ++ x ∷ []) ahead m n in
    let e8 : 8 - w ≡ p = omega arith in
    let front : take (8 - w) F ≡ b ∷ begun =
    ap (λ n. take n F) e8 ∙ sym (take-append-le p F (flow o ahead) (omega arith)) ∙ e in
    ap (λ z. given ++ z) (laid_out_end o (b ∷ begun) (omega arith) l ∙ ap (λ s. group_number o (filled s) ∷ []) (sym front))
    ∙ sym (cleared-append o w given x)
    ∙ ap (cleared o w) (sym t)

pub rewrite_law : RewriteLaw
unfolding taken left laid_out
rewrite_law ps bs T h all ts =
    let r = ends_from ps 0 Msb0 [] bs T (omega arith) refl h all (omega arith) refl (rw (spot_zero Msb0 bs) ts) in
    r.lays ∙ taken_bytes (last_order Msb0 (map shape ps)) r.given r.begun r.ahead (All-same IsByte (r.given ++ r.ahead) bs (sym r.splits) all) r.short r.reads
    ∙ ap₂ (λ S x. cleared (last_order Msb0 (map shape ps)) (length S.window) (take (length x - length S.bytes) x)) (sym r.stands) (sym r.splits)
