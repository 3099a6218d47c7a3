-- Laws of taking bits from a stream, in one order.
use Rattle.std.proofs.Common.{ℕ, zero, suc, ◌+◌, ◌*◌, ◌-◌, ◌/◌, ◌%◌, ◌<◌, ◌≤◌, ◌≡◌, min, Bool, false, List, [], ◌∷◌, ◌++◌, length, take, drop, replicate, refl, ap, ap₂, sym, ◌∙◌, subst, ⊎_elim, arith, append-nil, length-append, length-drop, take-add, eq-eqb, ne_eqb}
use Rattle.std.proofs.lemmas.List.{drop_at, drop-drop, length-replicate}
use Rattle.std.proofs.lemmas.Bool.{cases_eq, cases_lt}
use Rattle.deku_stream.specs.declared.ctx.Order.{Order}
use Rattle.deku_stream.specs.declared.ctx.Order.TheVariants.{Msb0, Lsb0}
use Rattle.deku_stream.specs.Bits.{bin, byte_bits, facing, group_number}
use Rattle.deku_stream.specs.Streams.{Stream, Has, taken, left, normal, skipped}
use Rattle.deku_stream.specs.Streams.{fresh, PeekLaw, CutLaw, SkipLaw}
use Rattle.deku_stream.proofs.Binary.{length-facing, facing-facing}
use Rattle.deku_stream.proofs.Cuts.{drop_more_front, flow, length-byte_bits, bits_of-group}
use Rattle.deku_stream.proofs.Reading.{spot, spot_zero, seen-spot, has-spot, left-spot, left_none, facing_nil, behind, left_fresh, left-inside}

-- a stream with a window below eight is a spot in bytes
record IsSpot (o : Order) (S : Stream) : Type 0 where
  place : ℕ
  bytes : List ℕ
  low : place < 8
  within : place ≤ 8 * length bytes
  is : S ≡ spot o place bytes

spot_inside : (o : Order) (p b : ℕ) (bs : List ℕ) → 0 < p → spot o p (b ∷ bs) ≡ record { window = facing o (drop p (facing o (byte_bits b))); bytes = bs }
unfolding spot taken left skipped normal
spot_inside o zero b bs h = absurd (omega arith)
spot_inside o (suc p) b bs h = refl

is_spot : (o : Order) (S : Stream) → length S.window < 8 → IsSpot o S
unfolding spot taken left skipped normal
is_spot o S l = go S.window S.bytes l
  where
    go : (w : List Bool) (bs : List ℕ) → length w < 8 → IsSpot o (record { window = w; bytes = bs })
    go [] bs l = record { place = 0; bytes = bs; low = omega arith; within = omega arith; is = sym (spot_zero o bs) }
    go (b ∷ w) bs l =
        let v : List Bool = b ∷ w in
        let p : ℕ = 8 - length v in
        let zeros : List Bool = replicate p false in
        let g : List Bool = zeros ++ facing o v in
        let lz : length zeros ≡ p = length-replicate p false in
        let lg : length g ≡ 8 = length-append zeros (facing o v) ∙ omega (arith, length-facing o v) in
        record {
          place = p;
          bytes = group_number o g ∷ bs;
          low = omega arith;
          within = omega arith;
          is = sym (spot_inside o p (group_number o g) bs (omega arith)
              ∙ ap (λ s. record { window = facing o s; bytes = bs }) (ap (drop p) (bits_of-group o g lg) ∙ drop_at zeros (facing o v) p lz)
              ∙ ap (λ s. record { window = s; bytes = bs }) (facing-facing o v));
        }

has-room : (o : Order) (n p : ℕ) (bs : List ℕ) → p < 8 → p ≤ 8 * length bs → Has n (spot o p bs) → p + n ≤ 8 * length bs
unfolding spot taken left skipped normal
has-room o n p [] h k room = omega arith
has-room o n zero (b ∷ bs) h k room = omega arith
has-room o n (suc p) (b ∷ bs) h k room =
    omega (arith, length-facing o (drop (suc p) (facing o (byte_bits b))), length-drop (suc p) (facing o (byte_bits b)), length-facing o (byte_bits b), length-byte_bits b)

short-spot : (o : Order) (p : ℕ) (bs : List ℕ) → p < 8 → length (spot o p bs).window < 8
unfolding spot taken left skipped normal
short-spot o p [] h = omega arith
short-spot o zero (b ∷ bs) h = omega arith
short-spot o (suc p) (b ∷ bs) h =
    omega (arith, length-facing o (drop (suc p) (facing o (byte_bits b))), length-drop (suc p) (facing o (byte_bits b)), length-facing o (byte_bits b), length-byte_bits b)

flow-drop : (o : Order) (k : ℕ) (bs : List ℕ) → flow o (drop k bs) ≡ drop (8 * k) (flow o bs)
unfolding taken left skipped normal
flow-drop o zero bs = refl
flow-drop o (suc k) [] = sym (nothing (8 * suc k))
  where
    nothing : (n : ℕ) → ◌≡◌ {A = List Bool} (drop n []) []
    nothing zero = refl
    nothing (suc n) = refl
flow-drop o (suc k) (b ∷ bs) =
    let e : 8 * suc k ≡ 8 + 8 * k = omega arith in
    flow-drop o k bs ∙ sym (ap (λ n. drop n (facing o (byte_bits b) ++ flow o bs)) e
    ∙ drop_more_front (facing o (byte_bits b)) (flow o bs) (8 * k) (length-facing o (byte_bits b) ∙ length-byte_bits b))

abbrev Cut : Order → ℕ → ℕ → Stream → Type 0
Cut o m n S = (taken o (m + n) S ≡ taken o m S ++ taken o n (left o m S)) × (left o (m + n) S ≡ left o n (left o m S)) × (length (left o m S).window < 8) × Has n (left o m S)

cut_spot : (o : Order) (m n p : ℕ) (bs : List ℕ) → p < 8 → p + (m + n) ≤ 8 * length bs → Cut o m n (spot o p bs)
unfolding taken left skipped normal
cut_spot o m n p bs h room =
    let at : left o m (spot o p bs) ≡ spot o ((p + m) % 8) (drop ((p + m) / 8) bs) = left-spot o m p bs h (omega arith) in
    let q : ℕ = (p + m) % 8 in
    let k : ℕ = (p + m) / 8 in
    let ds : List ℕ = drop k bs in
    let low : q < 8 = omega arith in
    let ld : length ds ≡ length bs - k = length-drop k bs in
    let room' : q + n ≤ 8 * length ds = omega arith in
    let behind : drop q (flow o ds) ≡ drop m (drop p (flow o bs)) =
    ap (drop q) (flow-drop o k bs) ∙ drop-drop q (8 * k) (flow o bs) ∙ ap (λ x. drop x (flow o bs)) (split p m) ∙ sym (drop-drop m p (flow o bs)) in
    subst (λ L. (taken o (m + n) (spot o p bs) ≡ taken o m (spot o p bs) ++ taken o n L) × (left o (m + n) (spot o p bs) ≡ left o n L) × (length L.window < 8) × Has n L) (sym at) (
      ap (take (m + n)) (seen-spot o p bs h) ∙ take-add m n (drop p (flow o bs))
          ∙ ap₂ (λ x y. x ++ y) (ap (take m) (sym (seen-spot o p bs h))) (ap (take n) (sym behind ∙ sym (seen-spot o q ds low))),
      left-spot o (m + n) p bs h room
          ∙ ap₂ (λ x y. spot o x y) (remainder p m n) (ap (λ x. drop x bs) (quotient p m n) ∙ sym (drop-drop ((q + n) / 8) k bs))
          ∙ sym (left-spot o n q ds low room'),
      short-spot o q ds low,
      has-spot o n q ds low room',
    )
  where
    split : (p m : ℕ) → 8 * ((p + m) / 8) + (p + m) % 8 ≡ p + m
    split p m = omega arith

    remainder : (p m n : ℕ) → (p + (m + n)) % 8 ≡ ((p + m) % 8 + n) % 8
    remainder p m n = omega arith

    quotient : (p m n : ℕ) → (p + (m + n)) / 8 ≡ (p + m) / 8 + ((p + m) % 8 + n) / 8
    quotient p m n = omega arith

pub cut_law : CutLaw
unfolding taken left skipped normal
cut_law o m n S l h =
    let s = is_spot o S l in
    subst (Cut o m n) (sym s.is)
    (cut_spot o m n s.place s.bytes s.low (has-room o (m + n) s.place s.bytes s.low s.within (subst (Has (m + n)) s.is h)))

-- whole bytes after an empty window
left_bytes : (o : Order) (q : ℕ) (bs : List ℕ) → q ≤ length bs → left o (8 * q) (fresh bs) ≡ fresh (drop q bs)
unfolding taken left skipped normal
left_bytes o q bs h =
    let r : (0 + 8 * q) % 8 ≡ 0 = omega arith in
    let k : (0 + 8 * q) / 8 ≡ q = omega arith in
    ap (left o (8 * q)) (sym (spot_zero o bs))
    ∙ left-spot o (8 * q) 0 bs (omega arith) (omega arith)
    ∙ ap₂ (λ x y. spot o x (drop y bs)) r k
    ∙ spot_zero o (drop q bs)

-- the window alone
pub left_window : (o : Order) (S : Stream) → left o (length S.window) S ≡ fresh S.bytes
unfolding taken left skipped normal
left_window o S =
    let e : (length S.window - length S.window + 7) / 8 ≡ 0 = omega arith in
    rw e (ap (λ w. record { window = w; bytes = S.bytes })
    (ap (λ x. facing o (drop (length S.window) x)) (append-nil (facing o S.window))
    ∙ ap (facing o) (all (facing o S.window) (length S.window) (length-facing o S.window))
    ∙ nothing o))
  where
    all : (s : List Bool) (n : ℕ) → length s ≡ n → drop n s ≡ []
    all [] zero e = refl
    all [] (suc n) e = absurd (omega arith)
    all (b ∷ s) zero e = absurd (omega arith)
    all (b ∷ s) (suc n) e = all s n (omega arith)

    nothing : (o : Order) → facing o [] ≡ []
    nothing Msb0 = refl
    nothing Lsb0 = refl

-- more than the window
left_past : (o : Order) (m : ℕ) (S : Stream) → left o (length S.window + m) S ≡ left o m (fresh S.bytes)
unfolding taken left skipped normal
left_past o m S =
    let w : List Bool = facing o S.window in
    let some : length S.window + m - length S.window ≡ m = omega arith in
    let all : m - 0 ≡ m = omega arith in
    let X : List Bool = flow o (take ((m + 7) / 8) S.bytes) in
    let bits : drop (length S.window + m) (w ++ X) ≡ drop m (facing o [] ++ X) =
    sym (drop-drop m (length S.window) (w ++ X))
    ∙ ap (drop m) (drop_at w X (length S.window) (length-facing o S.window) ∙ ap (λ x. x ++ X) (sym (facing_nil o))) in
    rw (some, all) (ap (λ x. record { window = facing o x; bytes = drop ((m + 7) / 8) S.bytes }) bits)

pub skip_law : SkipLaw
unfolding taken left skipped normal
skip_law o n S l h = ⊎_elim short long (cases_lt (length S.window) n)
  where
    skip : ℕ → Stream → Stream
    skip c T = left o ((n - c) % 8) (record T { bytes = drop ((n - c) / 8) T.bytes })

    long : n ≤ length S.window → skipped o n S ≡ left o n S
    long k =
        let c : min n (length S.window) ≡ n = omega arith in
        let z : (n - n) % 8 ≡ 0 = omega arith in
        let q : (n - n) / 8 ≡ 0 = omega arith in
        ap (λ x. skip x (left o x S)) c
        ∙ ap₂ (λ x y. left o x (record (left o n S) { bytes = drop y (left o n S).bytes })) z q
        ∙ left_none o (left o n S)

    short : length S.window < n → skipped o n S ≡ left o n S
    short k =
        let w : ℕ = length S.window in
        let c : min n w ≡ w = omega arith in
        let m : ℕ = n - w in
        let e : n ≡ w + m = omega arith in
        let r : m ≡ 8 * (m / 8) + m % 8 = omega arith in
        let bs : List ℕ = S.bytes in
        let room : Has (8 * (m / 8) + m % 8) (fresh bs) = omega arith in
        let second = cut_law o (8 * (m / 8)) (m % 8) (fresh bs) (omega arith) room in
        ap (λ x. skip x (left o x S)) c
        ∙ ap (skip w) (left_window o S)
        ∙ ap (left o (m % 8)) (sym (left_bytes o (m / 8) bs (omega arith)))
        ∙ sym (second.1)
        ∙ ap (λ x. left o x (fresh bs)) (sym r)
        ∙ sym (left_past o m S)
        ∙ ap (λ x. left o x S) (sym e)

pub peek_law : PeekLaw
unfolding taken left skipped normal
peek_law o n S l h = ⊎_elim below eight (cases_lt (length S.window) 8)
  where
    normal_short : (S : Stream) → length S.window < 8 → normal S ≡ S
    normal_short S k = rw (ne_eqb (length S.window) 8 (λ (e : length S.window ≡ 8). omega arith)) refl

    after : (S : Stream) → length S.window < 8 → Has n S → normal (left o n S) ≡ left o n S
    after S k h =
        let e : n ≡ n + 0 = omega arith in
        normal_short (left o n S) ((cut_law o n 0 S k (subst (λ x. Has x S) e h)).2)

    below : length S.window < 8 → (taken o n S ≡ taken o n (normal S)) × (normal (left o n S) ≡ left o n (normal S))
    below k = subst (λ U. (taken o n S ≡ taken o n U) × (normal (left o n S) ≡ left o n U)) (sym (normal_short S k)) (refl, after S k h)

    eight : 8 ≤ length S.window → (taken o n S ≡ taken o n (normal S)) × (normal (left o n S) ≡ left o n (normal S))
    eight k =
        let e : length S.window ≡ 8 = omega arith in
        let b : ℕ = bin S.window in
        let w : byte_bits b ≡ S.window = bits_of-group Msb0 S.window e in
        let back : normal S ≡ fresh (b ∷ S.bytes) = rw (eq-eqb (length S.window) 8 e) refl in
        let B : List ℕ = b ∷ S.bytes in
        let same : taken o n S ≡ taken o n (fresh B) =
        ap (take n) (ap (λ x. facing o x ++ flow o S.bytes) (sym w) ∙ ap (λ x. x ++ (facing o (byte_bits b) ++ flow o S.bytes)) (sym (facing_nil o))) in
        let inside : S ≡ record { window = facing o (drop 0 (facing o (byte_bits b))); bytes = S.bytes } =
        ap (λ x. record { window = x; bytes = S.bytes }) (sym w ∙ sym (facing-facing o (byte_bits b))) in
        let lefts : normal (left o n S) ≡ left o n (fresh B) = ⊎_elim
        (λ (z : n ≡ 0). subst (λ m. normal (left o m S) ≡ left o m (fresh B)) (sym z) (ap normal (left_none o S) ∙ back ∙ sym (left_none o (fresh B))))
        (λ (z : n ≡ 0 → ⊥).
        let p : 0 + n ≡ n = omega arith in
        let one : left o n S ≡ left o n (fresh B) =
        ap (left o n) inside ∙ left-inside o n 0 b S.bytes (omega arith) (omega arith) ∙ ap (λ m. behind o m B) p ∙ sym (left_fresh o n B) in
        ap normal one ∙ after (fresh B) (omega arith) (omega arith))
        (cases_eq n 0) in
        subst (λ U. (taken o n S ≡ taken o n U) × (normal (left o n S) ≡ left o n U)) (sym back) (same, lefts)
