-- A reader's window against the bytes that pieces lay out.
use Rattle.std.proofs.Common.{ℕ, zero, suc, ◌+◌, ◌*◌, ◌-◌, ◌/◌, ◌%◌, ◌<◌, ◌≤◌, ◌≡◌, Bool, List, [], ◌∷◌, ◌++◌, length, map, take, drop, refl, ap, ap₂, sym, ◌∙◌, subst, ⊎_elim, arith, append_assoc, append-nil, length-append, length-drop}
use Rattle.std.proofs.lemmas.List.{take_at, drop_at, drop-drop}
use Rattle.std.proofs.lemmas.List.Concat.{flat_map-append}
use Rattle.deku_stream.specs.declared.ctx.Order.{Order}
use Rattle.deku_stream.specs.declared.ctx.Order.TheVariants.{Msb0, Lsb0}
use Rattle.deku_stream.specs.Bits.{byte_bits, facing, group_number}
use Rattle.deku_stream.specs.Streams.{Stream, Has, seen, taken, left}
use Rattle.deku_stream.specs.Pieces.{Piece, piece, filled, run_bytes, laid_out, shape, AlignedFrom}
use Rattle.deku_stream.specs.Writers.{remainder}
use Rattle.deku_stream.specs.Streams.{fresh}
use Rattle.deku_stream.specs.Symmetry.{Takes, ReadLaw}
use Rattle.deku_stream.proofs.Binary.{length-facing, facing-facing}
use Rattle.deku_stream.proofs.Groups.{by_eights}
use Rattle.deku_stream.proofs.Cuts.{emitted, flow, length-flow, length-byte_bits, length-remainder, length-emitted, drop_more_front, laid_out-join, laid_out_cut, laid_out_end, laid_out_front, flow-run}

-- the stream whose next bit is bit p, below eight, of the first byte, as an order meets it
unfoldable pub spot : Order → ℕ → List ℕ → Stream
unfolding taken left laid_out
spot o p [] = fresh []
spot o zero (b ∷ bs) = fresh (b ∷ bs)
spot o (suc p) (b ∷ bs) = record { window = facing o (drop (suc p) (facing o (byte_bits b))); bytes = bs }

pub spot_zero : (o : Order) (bs : List ℕ) → spot o 0 bs ≡ fresh bs
unfolding spot taken left laid_out
spot_zero o [] = refl
spot_zero o (b ∷ bs) = refl

drop_nil : (n : ℕ) → ◌≡◌ {A = List Bool} (drop n []) []
unfolding taken left laid_out
drop_nil zero = refl
drop_nil (suc n) = refl

pub drop_front : (n : ℕ) (xs ys : List Bool) → n ≤ length xs → drop n (xs ++ ys) ≡ drop n xs ++ ys
unfolding taken left laid_out
drop_front zero xs ys h = refl
drop_front (suc n) [] ys h = absurd (omega arith)
drop_front (suc n) (x ∷ xs) ys h = drop_front n xs ys (omega arith)

-- the bits to come
pub seen-spot : (o : Order) (p : ℕ) (bs : List ℕ) → p < 8 → seen o (spot o p bs) ≡ drop p (flow o bs)
unfolding spot taken left laid_out
seen-spot Msb0 p [] h = sym (drop_nil p)
seen-spot Lsb0 p [] h = sym (drop_nil p)
seen-spot Msb0 zero (b ∷ bs) h = refl
seen-spot Lsb0 zero (b ∷ bs) h = refl
seen-spot o (suc p) (b ∷ bs) h =
    rw (facing-facing o (drop (suc p) (facing o (byte_bits b))))
    (sym (drop_front (suc p) (facing o (byte_bits b)) (flow o bs) (omega (arith, length-facing o (byte_bits b), length-byte_bits b))))

-- the stream after the first m bits of bytes
pub behind : Order → ℕ → List ℕ → Stream
unfolding taken left laid_out
behind o m bs = record { window = facing o (drop m (flow o (take ((m + 7) / 8) bs))); bytes = drop ((m + 7) / 8) bs }

pub facing_nil : (o : Order) → facing o [] ≡ []
unfolding taken left laid_out
facing_nil Msb0 = refl
facing_nil Lsb0 = refl

behind-short : (o : Order) (m : ℕ) (bs : List ℕ) → 0 < m → m < 8 → m ≤ 8 * length bs → behind o m bs ≡ spot o m bs
unfolding behind spot taken left laid_out
behind-short o zero bs p l h = absurd (omega arith)
behind-short o (suc m) [] p l h = absurd (omega arith)
behind-short o (suc m) (b ∷ bs) p l h =
    let e : (suc m + 7) / 8 ≡ 1 = omega arith in
    rw e (ap (λ x. record { window = facing o (drop (suc m) x); bytes = bs }) (append-nil (facing o (byte_bits b))))

behind-more : (o : Order) (m : ℕ) (b : ℕ) (bs : List ℕ) → behind o (8 + m) (b ∷ bs) ≡ behind o m bs
unfolding behind taken left laid_out
behind-more o m b bs =
    let e : (8 + m + 7) / 8 ≡ suc ((m + 7) / 8) = omega arith in
    rw e (ap (λ x. record { window = facing o x; bytes = drop ((m + 7) / 8) bs })
    (drop_more_front (facing o (byte_bits b)) (flow o (take ((m + 7) / 8) bs)) m (length-facing o (byte_bits b) ∙ length-byte_bits b)))

behind-spot : (o : Order) (m : ℕ) (bs : List ℕ) → m ≤ 8 * length bs → behind o m bs ≡ spot o (m % 8) (drop (m / 8) bs)
unfolding behind taken left laid_out
behind-spot o m = by_eights (λ m. (bs : List ℕ) → m ≤ 8 * length bs → behind o m bs ≡ spot o (m % 8) (drop (m / 8) bs))
    (λ bs h. nothing bs)
    (λ m p l bs h.
    let r : m % 8 ≡ m = omega arith in
    let q : m / 8 ≡ 0 = omega arith in
    rw (r, q) (behind-short o m bs p l h))
    more
    m
  where
    nothing : (bs : List ℕ) → behind o 0 bs ≡ spot o 0 bs
    nothing bs = ap (λ w. record { window = w; bytes = bs }) (facing_nil o) ∙ sym (spot_zero o bs)

    more : (m : ℕ) → ((bs : List ℕ) → m ≤ 8 * length bs → behind o m bs ≡ spot o (m % 8) (drop (m / 8) bs)) → (bs : List ℕ) → 8 + m ≤ 8 * length bs → behind o (8 + m) bs ≡ spot o ((8 + m) % 8) (drop ((8 + m) / 8) bs)
    more m ih [] h = absurd (omega arith)
    more m ih (b ∷ bs) h =
        let r : (8 + m) % 8 ≡ m % 8 = omega arith in
        let q : (8 + m) / 8 ≡ suc (m / 8) = omega arith in
        rw (r, q) (behind-more o m b bs ∙ ih bs (omega arith))

left_nil : (o : Order) → left o 0 (fresh []) ≡ behind o 0 []
unfolding behind taken left laid_out
left_nil Msb0 = refl
left_nil Lsb0 = refl

pub left_fresh : (o : Order) (n : ℕ) (bs : List ℕ) → left o n (fresh bs) ≡ behind o n bs
unfolding behind taken left laid_out
left_fresh o n bs =
    let e : n - 0 ≡ n = omega arith in
    rw e (ap (λ w. record { window = facing o (drop n (w ++ flow o (take ((n + 7) / 8) bs))); bytes = drop ((n + 7) / 8) bs }) (facing_nil o))

pub left-inside : (o : Order) (n p b : ℕ) (bs : List ℕ) → 0 < p + n → p < 8 → left o n (record { window = facing o (drop p (facing o (byte_bits b))); bytes = bs }) ≡ behind o (p + n) (b ∷ bs)
unfolding behind taken left laid_out
left-inside o n p b bs q h =
    let F : List Bool = facing o (byte_bits b) in
    let lf : length F ≡ 8 = length-facing o (byte_bits b) ∙ length-byte_bits b in
    let w : List Bool = facing o (drop p F) in
    let lw : length w ≡ 8 - p = length-facing o (drop p F) ∙ length-drop p F ∙ ap (λ x. x - p) lf in
    let k : ℕ = (n - length w + 7) / 8 in
    let e : (p + n + 7) / 8 ≡ suc k = omega arith in
    let X : List Bool = flow o (take k bs) in
    let bits : drop n (facing o w ++ X) ≡ drop (p + n) (F ++ X) =
    ap (λ x. drop n (x ++ X)) (facing-facing o (drop p F))
    ∙ ap (drop n) (sym (drop_front p F X (omega arith)))
    ∙ drop-drop n p (F ++ X) in
    rw e (ap (λ x. record { window = facing o x; bytes = drop k bs }) bits)

-- what is left when n bits are taken at a spot
pub left-spot : (o : Order) (n p : ℕ) (bs : List ℕ) → p < 8 → p + n ≤ 8 * length bs → left o n (spot o p bs) ≡ spot o ((p + n) % 8) (drop ((p + n) / 8) bs)
unfolding spot taken left laid_out
left-spot o n p bs h room = same p bs h room ∙ behind-spot o (p + n) bs room
  where
    same : (p : ℕ) (bs : List ℕ) → p < 8 → p + n ≤ 8 * length bs → left o n (spot o p bs) ≡ behind o (p + n) bs
    same p [] h room =
        let zn : n ≡ 0 = omega arith in
        let zp : p ≡ 0 = omega arith in
        rw (zn, zp) (left_nil o)
    same zero (b ∷ bs) h room =
        let e : 0 + n ≡ n = omega arith in
        rw e (left_fresh o n (b ∷ bs))
    same (suc p) (b ∷ bs) h room = left-inside o n (suc p) b bs (omega arith) h

pub has-spot : (o : Order) (n p : ℕ) (bs : List ℕ) → p < 8 → p + n ≤ 8 * length bs → Has n (spot o p bs)
unfolding spot taken left laid_out
has-spot o n p [] h room = omega arith
has-spot o n zero (b ∷ bs) h room = omega arith
has-spot o n (suc p) (b ∷ bs) h room =
    omega (arith, length-facing o (drop (suc p) (facing o (byte_bits b))), length-drop (suc p) (facing o (byte_bits b)), length-facing o (byte_bits b), length-byte_bits b)

-- taking nothing
pub left_none : (o : Order) (S : Stream) → left o 0 S ≡ S
unfolding taken left laid_out
left_none o S =
    let e : (0 - length S.window + 7) / 8 ≡ 0 = omega arith in
    rw e (ap (λ w. record { window = w; bytes = S.bytes }) (ap (facing o) (append-nil (facing o S.window)) ∙ facing-facing o S.window))

-- the bits after a piece in front begin with its bits
flow-front : (o : Order) (t : List Bool) (qs : List Piece) (after : List ℕ) → 0 < length t → (z : List Bool) × (flow o (laid_out (piece o t ∷ qs) ++ after) ≡ t ++ z)
unfolding taken left laid_out
flow-front o t qs after p =
    let f = laid_out_front o t qs p in
    let r = flow-run o (t ++ f.0) in (
      f.0 ++ (r.0 ++ flow o (f.1 ++ after)),
      ap (λ x. flow o (x ++ after)) f.2
          ∙ ap (flow o) (append_assoc (run_bytes (piece o (t ++ f.0))) f.1 after)
          ∙ flat_map-append (λ b. facing o (byte_bits b)) (run_bytes (piece o (t ++ f.0))) (f.1 ++ after)
          ∙ ap (λ x. x ++ flow o (f.1 ++ after)) r.1
          ∙ append_assoc (t ++ f.0) r.0 (flow o (f.1 ++ after))
          ∙ append_assoc t f.0 (r.0 ++ flow o (f.1 ++ after)),
    )

-- one piece is taken: P are the bits of its byte that are taken already
record Step (o : Order) (P s : List Bool) (qs : List Piece) (bs after : List ℕ) : Type 0 where
  has : Has (length s) (spot o (length P) bs)
  takes : taken o (length s) (spot o (length P) bs) ≡ s
  next : List ℕ
  leaves : left o (length s) (spot o (length P) bs) ≡ spot o (length (remainder (P ++ s))) next
  holds : next ≡ laid_out (piece o (remainder (P ++ s)) ∷ qs) ++ after

step : (o : Order) (P s : List Bool) (qs : List Piece) (bs after : List ℕ) → length P < 8 → 0 < length s → bs ≡ laid_out (piece o P ∷ piece o s ∷ qs) ++ after → Step o P s qs bs after
unfolding taken left laid_out
step o P s qs bs after l p e =
    let t : List Bool = P ++ s in
    let lt : length t ≡ length P + length s = length-append P s in
    let whole_groups : bs ≡ laid_out (piece o t ∷ qs) ++ after = e ∙ ap (λ x. x ++ after) (laid_out-join o P s qs) in
    let z = flow-front o t qs after (omega arith) in
    let bits : flow o bs ≡ t ++ z.0 = ap (flow o) whole_groups ∙ z.1 in
    let room : length P + length s ≤ 8 * length bs = omega (arith, length-flow o bs, ap length bits, length-append t z.0) in
    let N : List ℕ = laid_out (piece o (remainder t) ∷ qs) ++ after in
    let split : bs ≡ emitted o t ++ N = whole_groups ∙ ap (λ x. x ++ after) (laid_out_cut o t qs) ∙ append_assoc (emitted o t) (laid_out (piece o (remainder t) ∷ qs)) after in
    record {
      has = has-spot o (length s) (length P) bs l room;
      takes = ap (take (length s)) (seen-spot o (length P) bs l ∙ ap (drop (length P)) (bits ∙ append_assoc P s z.0) ∙ drop_at P (s ++ z.0) (length P) refl)
          ∙ take_at s z.0 (length s) refl;
      next = N;
      leaves = left-spot o (length s) (length P) bs l room
          ∙ ap₂ (λ x y. spot o x y)
          (ap (λ x. x % 8) (sym lt) ∙ sym (length-remainder t))
          (ap₂ (λ x y. drop x y) (ap (λ x. x / 8) (sym lt)) split ∙ drop_at (emitted o t) N (length t / 8) (length-emitted o t));
      holds = refl;
    }

abbrev ReadsFrom : List Piece → Type 0
ReadsFrom ps = (n : ℕ) (o : Order) (P : List Bool) (bs after : List ℕ) → length P < 8 → n % 8 ≡ length P → AlignedFrom n o (map shape ps)
    → bs ≡ laid_out (piece o P ∷ ps) ++ after → (T : Stream) × Takes ps (spot o (length P) bs) T × (T.bytes ≡ after)

read_end : ReadsFrom []
unfolding spot taken left laid_out
read_end n o [] bs after l c h e = (fresh bs, spot_zero o bs, e)
read_end n o (b ∷ P) bs after l c h e =
    let f : bs ≡ group_number o (filled (b ∷ P)) ∷ after = e ∙ ap (λ x. x ++ after) (laid_out_end o (b ∷ P) (omega arith) l) in
    (spot o (length (b ∷ P)) bs, refl, rw f refl)

read_more : (q : Order) (s : List Bool) (ps : List Piece) → ReadsFrom ps → (n : ℕ) (o : Order) (P : List Bool) (bs after : List ℕ) → length P < 8 → n % 8 ≡ length P → AlignedFrom n o ((q, length s) ∷ map shape ps)
    → bs ≡ laid_out (piece o P ∷ piece q s ∷ ps) ++ after → (T : Stream) × Takes (piece q s ∷ ps) (spot o (length P) bs) T × (T.bytes ≡ after)
unfolding taken left laid_out
read_more q [] ps ih n o P bs after l c h e =
    let r = ih n o P bs after l c h e in
    (r.0, (omega arith, refl, rw (left_none q (spot o (length P) bs)) r.1), r.2)
read_more q (b ∷ s) ps ih n o P bs after l c h e = ⊎_elim
    (λ (z : n % 8 ≡ 0). boundary P (sym c ∙ z) z e)
    (λ (z : q ≡ o). subst (λ x. Goal x P) z (onward P l c (subst (λ x. bs ≡ laid_out (piece x P ∷ piece q (b ∷ s) ∷ ps) ++ after) (sym z) e)))
    h.0
  where
    Goal : Order → List Bool → Type 0
    Goal o P = (T : Stream) × Takes (piece q (b ∷ s) ∷ ps) (spot o (length P) bs) T × (T.bytes ≡ after)

    onward : (P : List Bool) → length P < 8 → n % 8 ≡ length P → bs ≡ laid_out (piece q P ∷ piece q (b ∷ s) ∷ ps) ++ after → Goal q P
    onward P l c e =
        let k = step q P (b ∷ s) ps bs after l (omega arith) e in
        let lr : length (remainder (P ++ b ∷ s)) ≡ (length P + length (b ∷ s)) % 8 = length-remainder (P ++ b ∷ s) ∙ ap (λ x. x % 8) (length-append P (b ∷ s)) in
        let r = ih (n + length (b ∷ s)) q (remainder (P ++ b ∷ s)) k.next after (omega arith) (omega arith) h.1 k.holds in
        (r.0, (k.has, k.takes, rw (k.leaves) r.1), r.2)

    boundary : (P : List Bool) → length P ≡ 0 → n % 8 ≡ 0 → bs ≡ laid_out (piece o P ∷ piece q (b ∷ s) ∷ ps) ++ after → Goal o P
    boundary [] z m e =
        let r = onward [] (omega arith) m e in
        (r.0, subst (λ S. Takes (piece q (b ∷ s) ∷ ps) S r.0) (spot_zero q bs ∙ sym (spot_zero o bs)) r.1, r.2)
    boundary (x ∷ P) z m e = absurd (omega arith)

reads_from : (ps : List Piece) → ReadsFrom ps
unfolding taken left laid_out
reads_from [] n o P bs after l c h e = read_end n o P bs after l c h e
reads_from (p ∷ ps) n o P bs after l c h e = read_more p.order p.bits ps (reads_from ps) n o P bs after l c h e

pub read_law : ReadLaw
unfolding taken left laid_out
read_law ps after h =
    let r = reads_from ps 0 Msb0 [] (laid_out ps ++ after) after (omega arith) refl h refl in
    (r.0, rw (spot_zero Msb0 (laid_out ps ++ after)) at r.1, r.2)
