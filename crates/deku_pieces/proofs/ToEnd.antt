-- Symmetric items up to the end of the input are symmetric if nothing follows.
use Rattle.std.proofs.Common.{◌≡◌, ℕ, ◌+◌, ◌*◌, ◌<◌, ◌^◌, true, false, List, [], ◌∷◌, ◌++◌, length, Option, Some, Result, Ok, Err, refl, ap, sym, ◌∙◌, subst, inl, inr, arith, append-nil}
use Rattle.std.specs.Global.{Vec}
use Rattle.std.specs.declared.io.ErrorKind.TheVariants.{OutOfMemory}
use Rattle.deku_bits.specs.declared.error.DekuError.{DekuError}
use Rattle.deku_bits.specs.declared.error.DekuError.TheVariants.{Io}
use Rattle.deku_bits.specs.Streams.{Stream, bit_count, fresh, left}
use Rattle.deku_bits.specs.Pieces.{Piece, laid_out}
use Rattle.deku_bits.specs.Symmetry.{Takes}
use Rattle.deku_bits.specs.Standings.{Standing, Going, Output, count_of}
use Rattle.deku_bits.specs.Outcomes.{Meaning, Mapped, Value, Refusal}
use Rattle.deku_bits.specs.ReaderCalls.{Ending}
use Rattle.deku_bits.proofs.Skips.{left_count}
use Rattle.deku_bits.proofs.Reading.{read_law}
use Rattle.deku_bits.proofs.Rewriting.{rewrite_law}
use Rattle.deku.specs.Composing.{Then, Second, First, Both, WritesEach}
use Rattle.deku.specs.Limits.{Taken, TakesItem, TakesEach, Widens, taken_items, EndsWith, Closes, ItemRefused, WithoutWidth, Unplaced, ValueBy, RefusalBy, MoreToCome, ReadsToEnd}
use Rattle.deku.specs.Wholes.{FromFirst}
use Rattle.deku_pieces.specs.Symmetric.{breadth, IsWrittenAs, Answers, TakenAs, IsSymmetric}
use Rattle.deku_pieces.specs.Pieces.{InTurn, OfEachBroad, SameEach}
use Rattle.deku_pieces.specs.Packs.{InStep, Unpacks, TakesIts, WasTaken}
use Rattle.deku_pieces.specs.ToEnd.{IsReadBackLast, IsSymmetricLast, ReadsRest, UnpacksWhole}
use Rattle.deku_pieces.proofs.Answering.{ok_is, mapped_must, then_must, Must}
use Rattle.deku_pieces.proofs.Turns.{breadth-append, takes_apart, takes_together, written_together, turns_one}
use Rattle.deku_pieces.proofs.Times.{each_one, each_written}
use Rattle.deku_pieces.proofs.Broad.{AllWiden, each_plain, each_widens}
use Rattle.deku_pieces.proofs.Ending.{last_step}
use Rattle.deku_pieces.proofs.WholeBytes.{takes_count}

-- ---- the end
-- a bit is left
more_left : (S : Stream) (c : ℕ) (v : Unit {0}) (t : Standing (Option Stream)) → MoreToCome false (Going (Some S) c) (Ok v) t → (0 < bit_count S) × (t ≡ Going (Some S) c)
more_left S c v t (inl p, is) = let e = p.1 in absurd (cc)
more_left S c v t (inr p, is) = (p.0, is)

-- whether one is left is always known
more_known : (S : Stream) (c : ℕ) (e : DekuError) (t : Standing (Option Stream)) → MoreToCome false (Going (Some S) c) (Err e) t → ⊥
more_known S c e t (inl p, is) = let d = p.1 in cc
more_known S c e t (inr p, is) = let d = p.1 in cc

-- none is left
at_end : (S : Stream) (c : ℕ) (t : Standing (Option Stream)) → Ending false (Going (Some S) c) (Ok true) t → (bit_count S ≡ 0) × (t ≡ Going (Some S) c)
at_end S c t (inl p, is) = (p.0, is)
at_end S c t (inr p, is) = let e = p.1 in absurd (cc)

-- of no bits, none are taken
takes_none : (ps : List Piece) (S T : Stream) → bit_count S ≡ 0 → Takes ps S T → breadth ps ≡ 0
takes_none [] S T none takes = refl
takes_none (p ∷ ps) S T none (has, is, takes) =
    let one = left_count p.order (length p.bits) S has in
    let rest = takes_none ps (left p.order (length p.bits) S) T (omega (arith, one, none)) takes in
    omega (arith, one, none, rest)

module _ {V : Type 0} {P : V → List Piece → Type 0} {same : V → V → Type 0} {writes : V → Meaning Output (Unit {0})} {m : Meaning (Option Stream) V}
    (A : IsSymmetric P same writes m) where
  abbrev Item : Type 0
  Item = Taken (Option Stream) V

  abbrev More : Meaning (Option Stream) V
  More = Then MoreToCome (λ _. m)

  more_read : (S : Stream) (c : ℕ) (v : V) (u : Standing (Option Stream)) → More false (Going (Some S) c) (Ok v) u → (0 < bit_count S) × m false (Going (Some S) c) (Ok v) u
  more_read S c v u (Second w t p q) = let d = more_left S c w t p in (d.0, subst (λ x. m false x (Ok v) u) d.1 q)
  more_read S c v u (First e p is) = absurd (cc)

  more_refused : (S : Stream) (c : ℕ) (e : DekuError) (u : Standing (Option Stream)) → More false (Going (Some S) c) (Err e) u → (0 < bit_count S) × m false (Going (Some S) c) (Err e) u
  more_refused S c e u (Second w t p q) = let d = more_left S c w t p in (d.0, subst (λ x. m false x (Err e) u) d.1 q)
  more_refused S c e u (First x p is) = absurd (more_known S c x u p)

  -- ---- read back
  -- an item was read for the first of these
  record Next (v : V) (x : Item) (c : ℕ) (u : Standing (Option Stream)) (own : List Piece) (U : Stream) : Type 0 where
    like : same v x.item
    left : u ≡ Going (Some U) (c + breadth own)
    widens : Widens x

  next : (v : V) (own : List Piece) (S U : Stream) (c : ℕ) (x : Item) (u : Standing (Option Stream)) → P v own → 0 < breadth own → Takes own S U → c + breadth own < 2 ^ 64
      → TakesItem More (Going (Some S) c) x u → Next v x c u own U
  next v own S U c x u p some takes room t = go (A.read_back v own p S U c (Ok x.item) u takes room (more_read S c x.item u t.read).1)
    where
      go : Answers (same v) U (c + breadth own) (Ok x.item) u → Next v x c u own U
      go (inl (z, f, is, stands)) =
          let before : count_of x.before ≡ c = ap count_of t.from in
          let after : count_of x.after ≡ c + breadth own = ap count_of t.left ∙ ap count_of stands in
          record { like = subst (same v) (sym (ok_is x.item z is)) f; left = stands; widens = omega (arith, some, before, after) }
      go (inr is) = absurd (cc)

  -- some of the items were read; the pieces of the others are still to be taken
  record Partway (vs : List V) (T : Stream) (ws : List V) (end : ℕ) (u : Standing (Option Stream)) : Type 0 where
    front : List V
    others : List V
    pieces : List Piece
    at : Stream
    count : ℕ
    split : vs ≡ front ++ others
    alike : SameEach same front ws
    are : OfEachBroad P others pieces
    takes : Takes pieces at T
    stands : u ≡ Going (Some at) count
    sum : count + breadth pieces ≡ end

  partway : (vs : List V) (ps : List Piece) (S T : Stream) (c end : ℕ) (xs : List Item) (u : Standing (Option Stream)) → bit_count T ≡ 0 → OfEachBroad P vs ps
      → Takes ps S T → c + breadth ps ≡ end → end < 2 ^ 64 → TakesEach More (Going (Some S) c) xs u → Partway vs T (taken_items xs) end u
  partway vs ps S T c end [] u none are takes sum room turn =
      record { front = []; others = vs; pieces = ps; at = S; count = c; split = refl; alike = tt; are = are; takes = takes; stands = sym turn; sum = sum }
  partway [] ps S T c end (x ∷ xs) u none are takes sum room (t, taken, turn) =
      let same_stream : S ≡ T = rw are at takes in
      let zero_left : bit_count S ≡ 0 = ap bit_count same_stream ∙ none in
      let some = (more_read S c x.item t taken.read).0 in
      absurd (omega (arith, zero_left, some))
  partway (v ∷ vs) ps S T c end (x ∷ xs) u none (a, b, p, q, e) takes sum room (t, taken, turn) =
      let w : breadth ps ≡ breadth a + breadth b = ap breadth e ∙ breadth-append a b in
      let cut = takes_apart a b S T (rw e at takes) in
      let n = next v a S cut.0 c x t p.0 p.1 cut.1 (omega (arith, room, sum, w)) taken in
      let f = partway vs b cut.0 T (c + breadth a) end xs u none q cut.2 (omega (arith, sum, w)) room (subst (λ s. TakesEach More s xs u) n.left turn) in
      record {
        front = v ∷ f.front;
        others = f.others;
        pieces = f.pieces;
        at = f.at;
        count = f.count;
        split = ap (λ zs. v ∷ zs) f.split;
        alike = (n.like, f.alike);
        are = f.are;
        takes = f.takes;
        stands = f.stands;
        sum = f.sum;
      }

  -- no items are left if there are no bits
  none_left : (others : List V) (ps : List Piece) (S T : Stream) → bit_count S ≡ 0 → OfEachBroad P others ps → Takes ps S T → (others ≡ []) × (S ≡ T) × (breadth ps ≡ 0)
  none_left [] ps S T none are takes = (refl, rw are at takes, ap breadth are)
  none_left (v ∷ vs) ps S T none (a, b, p, q, e) takes =
      let w : breadth ps ≡ breadth a + breadth b = ap breadth e ∙ breadth-append a b in
      let some = p.1 in
      let zero_wide = takes_none ps S T none takes in
      absurd (omega (arith, w, some, zero_wide))

  -- the next item has width, and is refused for lack of memory alone
  next_widens : (others : List V) (ps : List Piece) (S T : Stream) (c : ℕ) (x : Item) (u : Standing (Option Stream)) → bit_count T ≡ 0 → OfEachBroad P others ps → Takes ps S T
      → c + breadth ps < 2 ^ 64 → TakesItem More (Going (Some S) c) x u → Widens x
  next_widens [] ps S T c x u none are takes room taken =
      let same_stream : S ≡ T = rw are at takes in
      let zero_left : bit_count S ≡ 0 = ap bit_count same_stream ∙ none in
      let some = (more_read S c x.item u taken.read).0 in
      absurd (omega (arith, zero_left, some))
  next_widens (v ∷ vs) ps S T c x u none (a, b, p, q, e) takes room taken =
      let w : breadth ps ≡ breadth a + breadth b = ap breadth e ∙ breadth-append a b in
      let cut = takes_apart a b S T (rw e at takes) in
      let n = next v a S cut.0 c x u p.0 p.1 cut.1 (omega (arith, room, w)) taken in
      n.widens

  next_refused : (others : List V) (ps : List Piece) (S T : Stream) (c : ℕ) (d : DekuError) (u : Standing (Option Stream)) → bit_count T ≡ 0 → OfEachBroad P others ps → Takes ps S T
      → c + breadth ps < 2 ^ 64 → More false (Going (Some S) c) (Err d) u → d ≡ Io OutOfMemory
  next_refused [] ps S T c d u none are takes room k =
      let same_stream : S ≡ T = rw are at takes in
      let zero_left : bit_count S ≡ 0 = ap bit_count same_stream ∙ none in
      let some = (more_refused S c d u k).0 in
      absurd (omega (arith, zero_left, some))
  next_refused (v ∷ vs) ps S T c d u none (a, b, p, q, e) takes room k =
      let w : breadth ps ≡ breadth a + breadth b = ap breadth e ∙ breadth-append a b in
      let cut = takes_apart a b S T (rw e at takes) in
      go (A.read_back v a p.0 S cut.0 c (Err d) u cut.1 (omega (arith, room, w)) (more_refused S c d u k).1)
    where
      go : {U : Stream} {n : ℕ} → Answers (same v) U n (Err d) u → d ≡ Io OutOfMemory
      go (inl (z, f, is, stands)) = absurd (cc)
      go (inr is) = cc

  all_back : (vs ws : List V) (T : Stream) (end : ℕ) (t u : Standing (Option Stream)) → Partway vs T ws end t → Ending false t (Ok true) u → SameEach same vs ws × (u ≡ Going (Some T) end)
  all_back vs ws T end t u f closed =
      let d = at_end f.at f.count u (subst (λ s. Ending false s (Ok true) u) f.stands closed) in
      let n = none_left f.others f.pieces f.at T d.0 f.are f.takes in
      let front : vs ≡ f.front = f.split ∙ ap (λ x. f.front ++ x) n.0 ∙ append-nil f.front in
      let sum = f.sum in
      let count : f.count ≡ end = omega (arith, sum, n.2) in
      (subst (λ x. SameEach same x ws) (sym front) f.alike, d.1 ∙ ap (λ x. Going (Some x) f.count) n.1 ∙ ap (λ k. Going (Some T) k) count)

  items_back : (vs : List V) (ps : List Piece) → OfEachBroad P vs ps → IsReadBackLast ps (SameEach same vs) (ReadsToEnd m)
  items_back vs ps p S T c r u none takes room (EndsWith xs x k l turn on last over b e) = absurd (cc)
  items_back vs ps p S T c r u none takes room (Closes xs k t turn on closed over b e) =
      let f = partway vs ps S T c (c + breadth ps) xs t none p takes refl room turn in
      let all = all_back vs (taken_items xs) T (c + breadth ps) t u f closed in
      inl (taken_items xs, all.0, e, all.1)
  items_back vs ps p S T c r u none takes room (ItemRefused xs k t d turn on refusal over e) =
      let f = partway vs ps S T c (c + breadth ps) xs t none p takes refl room turn in
      let sum = f.sum in
      let lacks = next_refused f.others f.pieces f.at T f.count d u none f.are f.takes (omega (arith, sum, room)) (subst (λ s. More false s (Err d) u) f.stands refusal) in
      inr (e ∙ ap Err lacks)
  items_back vs ps p S T c r u none takes room (WithoutWidth xs x k l d turn on judged narrow tells over b e) =
      let cut = last_step (TakesItem More) (Going (Some S) c) xs x u turn in
      let f = partway vs ps S T c (c + breadth ps) xs cut.0 none p takes refl room cut.1 in
      let sum = f.sum in
      absurd (narrow (next_widens f.others f.pieces f.at T f.count x u none f.are f.takes (omega (arith, sum, room)) (subst (λ s. TakesItem More s x u) f.stands cut.2)))
  items_back vs ps p S T c r u none takes room (Unplaced xs x v k l turn on judged wide_or over b e) = inr e

  -- ---- what is read
  each_taken : (xs : List Item) (S : Stream) (c : ℕ) (u : Standing (Option Stream)) → AllWiden xs → TakesEach More (Going (Some S) c) xs u
      → TakenAs (OfEachBroad P) (taken_items xs) S c u
  each_taken [] S c u all turn = record { taken = []; has = refl; rest = S; takes = refl; stands = sym turn ∙ ap (λ n. Going (Some S) n) (omega arith) }
  each_taken (x ∷ xs) S c u all (t, taken, turn) =
      let a = A.read x.item S c t (more_read S c x.item t taken.read).1 in
      let b = each_taken xs a.rest (c + breadth a.taken) u all.1 (subst (λ s. TakesEach More s xs u) a.stands turn) in
      let before : count_of x.before ≡ c = ap count_of taken.from in
      let after : count_of x.after ≡ c + breadth a.taken = ap count_of taken.left ∙ ap count_of a.stands in
      let widens : count_of x.before < count_of x.after = all.0 in
      let broad : 0 < breadth a.taken = omega (arith, before, after, widens) in
      let sum : c + breadth a.taken + breadth b.taken ≡ c + breadth (a.taken ++ b.taken) = omega (arith, breadth-append a.taken b.taken) in
      record {
        taken = a.taken ++ b.taken;
        has = (a.taken, b.taken, (a.has, broad), b.has, refl);
        rest = b.rest;
        takes = takes_together a.taken b.taken S a.rest b.rest a.takes b.takes;
        stands = b.stands ∙ ap (λ n. Going (Some b.rest) n) sum;
      }

  items_read : (vs : List V) (S : Stream) (c : ℕ) (u : Standing (Option Stream)) → ReadsToEnd m false (Going (Some S) c) (Ok vs) u → TakenAs (OfEachBroad P) vs S c u
  items_read vs S c u (EndsWith xs x k l turn on last over b e) = absurd (cc)
  items_read vs S c u (Closes xs k t turn on closed over b e) =
      let a = each_taken xs S c t (each_widens (λ _ _ v _. v ≡ false) xs tt k on) turn in
      let d = at_end a.rest (c + breadth a.taken) u (subst (λ s. Ending false s (Ok true) u) a.stands closed) in
      let all : vs ≡ taken_items xs = ok_is vs (taken_items xs) e in
      record { taken = a.taken; has = subst (λ ys. OfEachBroad P ys a.taken) (sym all) a.has; rest = a.rest; takes = a.takes; stands = d.1 }
  items_read vs S c u (ItemRefused xs k t d turn on refusal over e) = absurd (cc)
  items_read vs S c u (WithoutWidth xs x k l d turn on judged narrow tells over b e) = absurd (cc)
  items_read vs S c u (Unplaced xs x v k l turn on judged wide_or over b e) = absurd (cc)

  -- ---- in what holds them
  module _ {X : Type 0} (made : Vec V → X) (items : X → Vec V) (is_items : (xs : Vec V) → items (made xs) ≡ xs) where
    abbrev Pieces : X → List Piece → Type 0
    Pieces x = OfEachBroad P (items x).items

    abbrev Same : X → X → Type 0
    Same x y = SameEach same (items x).items (items y).items

    seen_items : (xs : List V) (w y : Vec V) (x : X) → y.items ≡ xs → ◌≡◌ {A = Result (Vec V) DekuError} (Ok w) (Ok y) → ◌≡◌ {A = Result X DekuError} (Ok x) (Ok (made w)) → (items x).items ≡ xs
    seen_items xs w y x h e is = ap (λ z. (items z).items) (ok_is x (made w) is) ∙ ap (λ z. z.items) (is_items w) ∙ ap (λ z. z.items) (ok_is w y e) ∙ h

    rest_back : (x : X) (ps : List Piece) → Pieces x ps → IsReadBackLast ps (Same x) (ReadsRest made m)
    rest_back x ps p S T n r u none takes room (Value w (ValueBy xs y k h e) is) = go (items_back (items x).items ps p S T n (Ok xs) u none takes room k)
      where
        go : Answers (SameEach same (items x).items) T (n + breadth ps) (Ok xs) u → Answers (Same x) T (n + breadth ps) r u
        go (inl (z, f, ok, stands)) =
            let seen : (items (made w)).items ≡ z = ap (λ v. v.items) (is_items w) ∙ ap (λ v. v.items) (ok_is w y e) ∙ h ∙ ok_is xs z ok in
            inl (made w, subst (SameEach same (items x).items) (sym seen) f, is, stands)
        go (inr lacks) = absurd (cc)
    rest_back x ps p S T n r u none takes room (Value w (RefusalBy d k e) is) = absurd (cc)
    rest_back x ps p S T n r u none takes room (Refusal d (ValueBy xs y k h e) is) = absurd (cc)
    rest_back x ps p S T n r u none takes room (Refusal d (RefusalBy a k e) is) = go (items_back (items x).items ps p S T n (Err a) u none takes room k)
      where
        go : Answers (SameEach same (items x).items) T (n + breadth ps) (Err a) u → Answers (Same x) T (n + breadth ps) r u
        go (inl (z, f, ok, stands)) = absurd (cc)
        go (inr lacks) = let d_is : d ≡ Io OutOfMemory = cc in inr (is ∙ ap Err d_is)

    rest_read : (x : X) (S : Stream) (n : ℕ) (u : Standing (Option Stream)) → ReadsRest made m false (Going (Some S) n) (Ok x) u → TakenAs Pieces x S n u
    rest_read x S n u (Value w (ValueBy xs y k h e) is) =
        let a = items_read xs S n u k in
        let seen = seen_items xs w y x h e is in
        record { taken = a.taken; has = subst (λ z. OfEachBroad P z a.taken) (sym seen) a.has; rest = a.rest; takes = a.takes; stands = a.stands }
    rest_read x S n u (Value w (RefusalBy d k e) is) = absurd (cc)
    rest_read x S n u (Refusal d k is) = absurd (cc)

    pub rest_symmetric : IsSymmetricLast Pieces Same (λ x. WritesEach writes (items x).items) (ReadsRest made m)
    rest_symmetric = record {
      one = λ x ps qs p q. each_one P same writes m A (items x).items ps qs (each_plain P (items x).items ps p) (each_plain P (items x).items qs q);
      written = λ x ps p. each_written P same writes m A (items x).items ps (each_plain P (items x).items ps p);
      read_back = rest_back;
      read = rest_read;
    }

-- ---- parts before what is last
module _ {V W X : Type 0} {P : V → List Piece → Type 0} {Q : W → List Piece → Type 0} {same_head : V → V → Type 0} {same_rest : W → W → Type 0}
    {write_head : V → Meaning Output (Unit {0})} {write_rest : W → Meaning Output (Unit {0})} {m : Meaning (Option Stream) V} {k : Meaning (Option Stream) W}
    (made : V → W → X) (head : X → V) (rest : X → W) (is_head : (v : V) (w : W) → head (made v w) ≡ v) (is_rest : (v : V) (w : W) → rest (made v w) ≡ w)
    (A : IsSymmetric P same_head write_head m) (B : IsSymmetricLast Q same_rest write_rest k) where
  abbrev Before : X → List Piece → Type 0
  Before x = InTurn (P (head x)) (Q (rest x))

  abbrev SameBefore : X → X → Type 0
  SameBefore x y = same_head (head x) (head y) × same_rest (rest x) (rest y)

  abbrev ReadsBefore : Meaning (Option Stream) X
  ReadsBefore = Then m (λ h. Mapped (made h) k)

  made_same : (x : X) (v : V) (w : W) → same_head (head x) v → same_rest (rest x) w → SameBefore x (made v w)
  made_same x v w f g = (subst (same_head (head x)) (sym (is_head v w)) f, subst (same_rest (rest x)) (sym (is_rest v w)) g)

  turns_back : (x : X) (a b : List Piece) → P (head x) a → Q (rest x) b → IsReadBackLast (a ++ b) (SameBefore x) ReadsBefore
  turns_back x a b p q S T n r u none takes room mean =
      let wide = breadth-append a b in
      let cut = takes_apart a b S T takes in
      let i : ℕ = n + breadth a in
      let j : ℕ = i + breadth b in
      let sum : j ≡ n + breadth (a ++ b) = omega (arith, wide) in
      let one : Must m (Going (Some S) n) (same_head (head x)) cut.0 i = λ r u. A.read_back (head x) a p S cut.0 n r u cut.1 (omega (arith, room, wide)) in
      let two : Must k (Going (Some cut.0) i) (same_rest (rest x)) T j = λ r u. B.read_back (rest x) b q cut.0 T i r u none cut.2 (omega (arith, room, wide)) in
      subst (λ y. Must ReadsBefore (Going (Some S) n) (SameBefore x) T y) sum
      (then_must m (λ h. Mapped (made h) k) (Going (Some S) n) (same_head (head x)) cut.0 i (SameBefore x) T j one
      (λ v f. mapped_must (made v) k (Going (Some cut.0) i) (same_rest (rest x)) (SameBefore x) T j (λ w g. made_same x v w f g) two)) r u mean

  before_back : (x : X) (ps : List Piece) → Before x ps → IsReadBackLast ps (SameBefore x) ReadsBefore
  before_back x ps (a, b, p, q, e) = subst (λ y. IsReadBackLast y (SameBefore x) ReadsBefore) (sym e) (turns_back x a b p q)

  before_written : (x : X) (ps : List Piece) → Before x ps → IsWrittenAs ps (Both (write_head (head x)) (write_rest (rest x)))
  before_written x ps (a, b, p, q, e) =
      subst (λ y. IsWrittenAs y (Both (write_head (head x)) (write_rest (rest x)))) (sym e)
      (written_together a b (write_head (head x)) (write_rest (rest x)) (A.written (head x) a p) (B.written (rest x) b q))

  both_read : (v : V) (w : W) (S : Stream) (n : ℕ) (t u : Standing (Option Stream)) → TakenAs P v S n t → k false t (Ok w) u → TakenAs Before (made v w) S n u
  both_read v w S n t u a q =
      let b = B.read w a.rest (n + breadth a.taken) u (subst (λ x. k false x (Ok w) u) a.stands q) in
      let sum : n + breadth a.taken + breadth b.taken ≡ n + breadth (a.taken ++ b.taken) = omega (arith, breadth-append a.taken b.taken) in
      record {
        taken = a.taken ++ b.taken;
        has = (a.taken, b.taken, subst (λ x. P x a.taken) (sym (is_head v w)) a.has, subst (λ x. Q x b.taken) (sym (is_rest v w)) b.has, refl);
        rest = b.rest;
        takes = takes_together a.taken b.taken S a.rest b.rest a.takes b.takes;
        stands = b.stands ∙ ap (λ x. Going (Some b.rest) x) sum;
      }

  before_read : (x : X) (S : Stream) (n : ℕ) (u : Standing (Option Stream)) → ReadsBefore false (Going (Some S) n) (Ok x) u → TakenAs Before x S n u
  before_read x S n u (Second v t p (Value w q e)) = subst (λ z. TakenAs Before z S n u) (sym (ok_is x (made v w) e)) (both_read v w S n t u (A.read v S n t p) q)
  before_read x S n u (Second v t p (Refusal e q is)) = absurd (cc)
  before_read x S n u (First e p is) = absurd (cc)

  pub before_symmetric : IsSymmetricLast Before SameBefore (λ x. Both (write_head (head x)) (write_rest (rest x))) ReadsBefore
  before_symmetric = record {
    one = λ x. turns_one (P (head x)) (Q (rest x)) (A.one (head x)) (B.one (rest x));
    written = before_written;
    read_back = before_back;
    read = before_read;
  }

-- ---- from bytes
module _ {V : Type 0} (pieces : V → List Piece → Type 0) (same : V → V → Type 0) (writes : V → Meaning Output (Unit {0})) (m : Meaning (Option Stream) V) (A : IsSymmetricLast pieces same writes m)
    (bytes : List ℕ) where
  -- what is returned from exactly the bytes that the pieces of v lay out
  whole_back : (v : V) (ps : List Piece) → pieces v ps → InStep ps → bytes ≡ laid_out ps → breadth ps ≡ 8 * length bytes → breadth ps < 2 ^ 64
      → (r : Result V DekuError) (u : Standing (Option Stream)) → FromFirst m bytes r u → (T : Stream) × Answers (same v) T (breadth ps) r u
  whole_back v ps p aligned is full room r u w =
      let begins : bytes ≡ laid_out ps ++ [] = is ∙ sym (append-nil (laid_out ps)) in
      let t = read_law ps [] aligned in
      let takes : Takes ps (fresh bytes) t.0 = subst (λ x. Takes ps (fresh x) t.0) (sym begins) t.1 in
      let counted = takes_count ps (fresh bytes) t.0 (omega arith) takes in
      let none : bit_count t.0 ≡ 0 = omega (arith, counted.0, full) in
      let zero_more : 0 + breadth ps ≡ breadth ps = omega arith in
      (t.0, subst (λ n. Answers (same v) t.0 n r u) zero_more (A.read_back v ps p (fresh bytes) t.0 0 r u none takes (omega (arith, room)) w))

  pub unpacked_whole : (r : Result (ℕ × V) DekuError) → Unpacks m bytes r → UnpacksWhole pieces same bytes r
  unpacked_whole (Ok p) (u, w, c) v ps h aligned is full room = go (whole_back v ps h aligned is full room (Ok p.1) u w)
    where
      go : (T : Stream) × Answers (same v) T (breadth ps) (Ok p.1) u → (p.0 ≡ breadth ps) × same v p.1
      go (T, inl (x, g, e, f)) = (c ∙ ap count_of f, subst (same v) (sym (ok_is p.1 x e)) g)
      go (T, inr e) = absurd (cc)
  unpacked_whole (Err e) (u, w) v ps h aligned is full room = go (whole_back v ps h aligned is full room (Err e) u w)
    where
      go : (T : Stream) × Answers (same v) T (breadth ps) (Err e) u → e ≡ Io OutOfMemory
      go (T, inl (x, g, p, f)) = absurd (cc)
      go (T, inr p) = cc

  -- a value that is read has pieces that were taken
  last_found : (v : V) (n : ℕ) (u : Standing (Option Stream)) → n ≡ count_of u → FromFirst m bytes (Ok v) u → WasTaken pieces bytes n v
  last_found v n u c w =
      let a = A.read v (fresh bytes) 0 u w in
      record {
        taken = a.taken;
        has = a.has;
        width = c ∙ ap count_of (a.stands) ∙ omega arith;
        rest = a.rest;
        takes = a.takes;
        laid = λ aligned small. rewrite_law a.taken bytes a.rest aligned small (a.takes);
      }

  pub last_taken : (r : Result (ℕ × V) DekuError) → Unpacks m bytes r → TakesIts pieces bytes r
  last_taken (Err e) w = tt
  last_taken (Ok p) (u, w, c) = last_found p.1 p.0 u c w
