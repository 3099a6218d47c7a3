-- A symmetric head, and after it symmetric items that fill as many bits as it says, are symmetric.
use Rattle.std.proofs.Common.{◌≡◌, ℕ, ◌+◌, ◌<◌, ◌^◌, Bool, true, false, List, [], ◌∷◌, ◌++◌, Option, None, Some, Ok, Err, refl, ap, sym, ◌∙◌, subst, inl, inr, arith}
use Rattle.std.specs.Prelude.{◌↔◌}
use Rattle.std.specs.Global.{Vec}
use Rattle.std.specs.declared.io.ErrorKind.TheVariants.{OutOfMemory}
use Rattle.std.proofs.lemmas.List.{map-append}
use Rattle.deku_bits.specs.declared.error.DekuError.{DekuError}
use Rattle.deku_bits.specs.declared.error.DekuError.TheVariants.{Io, Assertion, Parse}
use Rattle.deku_bits.specs.Streams.{Stream}
use Rattle.deku_bits.specs.Pieces.{Piece}
use Rattle.deku_bits.specs.Symmetry.{Takes}
use Rattle.deku_bits.specs.Standings.{Standing, Going, Output, count_of}
use Rattle.deku_bits.specs.Outcomes.{Meaning}
use Rattle.deku.specs.Composing.{Answer, Both, WritesEach}
use Rattle.deku.specs.Limits.{Taken, TakesItem, TakesEach, GoesOn, Widens, taken_items, EndsWith, Closes, ItemRefused, WithoutWidth, Unplaced, MappedBy, ReadsBitsOf, NoBits, SomeBits}
use Rattle.deku_pieces.specs.Symmetric.{breadth, IsWrittenAs, IsReadBack, Answers, TakenAs, IsSymmetric}
use Rattle.deku_pieces.specs.Pieces.{OfEachBroad, SameEach}
use Rattle.deku_pieces.specs.Sizes.{OfSized, OfSizes, IfSized, WritesExactly, WritesSizes, ReadsFilled}
use Rattle.deku_pieces.proofs.Answering.{ok_is, answer_is, answer_must}
use Rattle.deku_pieces.proofs.Turns.{breadth-append, takes_apart, takes_together}
use Rattle.deku_pieces.proofs.Times.{each_one, each_written}
use Rattle.deku_pieces.proofs.Broad.{AllWiden, each_plain, each_widens, all_widen, less_unless}
use Rattle.deku_pieces.proofs.Ending.{last_step}
use Rattle.deku_pieces.proofs.UnderCount.{holder_symmetric}
use Rattle.deku_pieces.proofs.Heads.{indexed_symmetric, some_is}
use Rattle.deku_pieces.proofs.Sizes.{exactly_written, later}

-- no pieces leave the stream as it is
takes_nothing : (ps : List Piece) (S T : Stream) → ps ≡ [] → Takes ps S T → S ≡ T
takes_nothing ps S T e takes = rw e at takes

-- items that are the same, and then others
same_append : {V : Type 0} (same : V → V → Type 0) (vs ws xs ys : List V) → SameEach same vs ws → SameEach same xs ys → SameEach same (vs ++ xs) (ws ++ ys)
same_append same [] [] xs ys f g = g
same_append same [] (w ∷ ws) xs ys f g = absurd f
same_append same (v ∷ vs) [] xs ys f g = absurd f
same_append same (v ∷ vs) (w ∷ ws) xs ys f g = (f.0, same_append same vs ws xs ys f.1 g)

module _ {V : Type 0} {P : V → List Piece → Type 0} {same : V → V → Type 0} {writes : V → Meaning Output (Unit {0})} {m : Meaning (Option Stream) V}
    (A : IsSymmetric P same writes m) where
  abbrev Item : Type 0
  Item = Taken (Option Stream) V

  -- the list ends with the item with which this many bits are read
  abbrev judge : ℕ → Unit {0} → Item → Bool → Unit {0} → Type 0
  judge end q x v k = (v ≡ true) ↔ (count_of x.after ≡ end)

  -- ---- read back
  -- an item was read for the first of these
  record Next (v : V) (x : Item) (c : ℕ) (u : Standing (Option Stream)) (own : List Piece) (U : Stream) : Type 0 where
    like : same v x.item
    left : u ≡ Going (Some U) (c + breadth own)
    count : count_of x.after ≡ c + breadth own
    widens : Widens x

  next : (v : V) (own : List Piece) (S U : Stream) (c : ℕ) (x : Item) (u : Standing (Option Stream)) → P v own → 0 < breadth own → Takes own S U → c + breadth own < 2 ^ 64
      → TakesItem m (Going (Some S) c) x u → Next v x c u own U
  next v own S U c x u p some takes room t = go (A.read_back v own p S U c (Ok x.item) u takes room t.read)
    where
      go : Answers (same v) U (c + breadth own) (Ok x.item) u → Next v x c u own U
      go (inl (z, f, is, stands)) =
          let before : count_of x.before ≡ c = ap count_of t.from in
          let after : count_of x.after ≡ c + breadth own = ap count_of t.left ∙ ap count_of stands in
          record { like = subst (same v) (sym (ok_is x.item z is)) f; left = stands; count = after; widens = omega (arith, some, before, after) }
      go (inr is) = absurd (cc)

  -- some of the items were read, and not all; the pieces of the others are still to be taken
  record Partway (vs : List V) (T : Stream) (ws : List V) (end : ℕ) (u : Standing (Option Stream)) : Type 0 where
    front : List V
    others : List V
    pieces : List Piece
    at : Stream
    count : ℕ
    split : vs ≡ front ++ others
    alike : SameEach same front ws
    are : OfEachBroad P others pieces
    takes : Takes pieces at T
    stands : u ≡ Going (Some at) count
    sum : count + breadth pieces ≡ end
    more : count < end

  partway : (vs : List V) (ps : List Piece) (S T : Stream) (c end : ℕ) (xs : List Item) (j k : Unit {0}) (u : Standing (Option Stream)) → c < end → OfEachBroad P vs ps
      → Takes ps S T → c + breadth ps ≡ end → end < 2 ^ 64 → TakesEach m (Going (Some S) c) xs u → GoesOn (judge end) j xs k → Partway vs T (taken_items xs) end u
  partway vs ps S T c end [] j k u less are takes sum room turn on =
      record { front = []; others = vs; pieces = ps; at = S; count = c; split = refl; alike = tt; are = are; takes = takes; stands = sym turn; sum = sum; more = less }
  partway [] ps S T c end (x ∷ xs) j k u less are takes sum room turn on = let none : breadth ps ≡ 0 = ap breadth are in absurd (omega (arith, less, sum, none))
  partway (v ∷ vs) ps S T c end (x ∷ xs) j k u less (a, b, p, q, e) takes sum room (t, taken, turn) (i, judged, on) =
      let w : breadth ps ≡ breadth a + breadth b = ap breadth e ∙ breadth-append a b in
      let cut = takes_apart a b S T (rw e at takes) in
      let n = next v a S cut.0 c x t p.0 p.1 cut.1 (omega (arith, room, sum, w)) taken in
      let count = n.count in
      let others_come : breadth b ≡ 0 → ⊥ = λ none. let is : count_of x.after ≡ end = omega (arith, sum, w, none, count) in let bad : false ≡ true = judged.0.1 is in cc in
      let f = partway vs b cut.0 T (c + breadth a) end xs i k u (less_unless (c + breadth a) (breadth b) end (omega (arith, sum, w)) others_come) q cut.2 (omega (arith, sum, w)) room
      (subst (λ s. TakesEach m s xs u) n.left turn) on in
      record {
        front = v ∷ f.front;
        others = f.others;
        pieces = f.pieces;
        at = f.at;
        count = f.count;
        split = ap (λ zs. v ∷ zs) f.split;
        alike = (n.like, f.alike);
        are = f.are;
        takes = f.takes;
        stands = f.stands;
        sum = f.sum;
        more = f.more;
      }

  -- no items have no bits
  none_wide : (vs : List V) (ps : List Piece) → OfEachBroad P vs ps → breadth ps ≡ 0 → (vs ≡ []) × (ps ≡ [])
  none_wide [] ps are none = (refl, are)
  none_wide (v ∷ vs) ps (a, b, p, q, e) none =
      let w : breadth ps ≡ breadth a + breadth b = ap breadth e ∙ breadth-append a b in
      let some = p.1 in
      absurd (omega (arith, none, w, some))

  -- the item with which all bits are read is the last
  last_back : (others : List V) (ps : List Piece) (S T : Stream) (c end : ℕ) (x : Item) (u : Standing (Option Stream)) → c < end → OfEachBroad P others ps → Takes ps S T
      → c + breadth ps ≡ end → end < 2 ^ 64 → TakesItem m (Going (Some S) c) x u → count_of x.after ≡ end → SameEach same others (x.item ∷ []) × (u ≡ Going (Some T) end)
  last_back [] ps S T c end x u less are takes sum room taken last = let none : breadth ps ≡ 0 = ap breadth are in absurd (omega (arith, less, sum, none))
  last_back (v ∷ vs) ps S T c end x u less (a, b, p, q, e) takes sum room taken last =
      let w : breadth ps ≡ breadth a + breadth b = ap breadth e ∙ breadth-append a b in
      let cut = takes_apart a b S T (rw e at takes) in
      let n = next v a S cut.0 c x u p.0 p.1 cut.1 (omega (arith, room, sum, w)) taken in
      let count = n.count in
      let whole : c + breadth a ≡ end = sym count ∙ last in
      let none = none_wide vs b q (omega (arith, sum, w, whole)) in
      let same_stream : cut.0 ≡ T = takes_nothing b cut.0 T none.1 cut.2 in
      (subst (λ ys. SameEach same (v ∷ ys) (x.item ∷ [])) (sym none.0) (n.like, tt), n.left ∙ ap (λ y. Going (Some y) (c + breadth a)) same_stream ∙ ap (λ y. Going (Some T) y) whole)

  -- the next item has width, and is refused for lack of memory alone
  next_widens : (others : List V) (ps : List Piece) (S T : Stream) (c end : ℕ) (x : Item) (u : Standing (Option Stream)) → c < end → OfEachBroad P others ps → Takes ps S T
      → c + breadth ps ≡ end → end < 2 ^ 64 → TakesItem m (Going (Some S) c) x u → Widens x
  next_widens [] ps S T c end x u less are takes sum room taken = let none : breadth ps ≡ 0 = ap breadth are in absurd (omega (arith, less, sum, none))
  next_widens (v ∷ vs) ps S T c end x u less (a, b, p, q, e) takes sum room taken =
      let w : breadth ps ≡ breadth a + breadth b = ap breadth e ∙ breadth-append a b in
      let cut = takes_apart a b S T (rw e at takes) in
      let n = next v a S cut.0 c x u p.0 p.1 cut.1 (omega (arith, room, sum, w)) taken in
      n.widens

  next_refused : (others : List V) (ps : List Piece) (S T : Stream) (c end : ℕ) (d : DekuError) (u : Standing (Option Stream)) → c < end → OfEachBroad P others ps → Takes ps S T
      → c + breadth ps ≡ end → end < 2 ^ 64 → m false (Going (Some S) c) (Err d) u → d ≡ Io OutOfMemory
  next_refused [] ps S T c end d u less are takes sum room k = let none : breadth ps ≡ 0 = ap breadth are in absurd (omega (arith, less, sum, none))
  next_refused (v ∷ vs) ps S T c end d u less (a, b, p, q, e) takes sum room k =
      let w : breadth ps ≡ breadth a + breadth b = ap breadth e ∙ breadth-append a b in
      let cut = takes_apart a b S T (rw e at takes) in
      go (A.read_back v a p.0 S cut.0 c (Err d) u cut.1 (omega (arith, room, sum, w)) k)
    where
      go : {U : Stream} {n : ℕ} → Answers (same v) U n (Err d) u → d ≡ Io OutOfMemory
      go (inl (z, f, is, stands)) = absurd (cc)
      go (inr is) = cc

  -- items of exactly n bits
  abbrev Filling : ℕ → List V → List Piece → Type 0
  Filling n vs ps = (n ≡ breadth ps) × OfEachBroad P vs ps

  filled_back : (n : ℕ) (vs : List V) (ps : List Piece) → Filling n vs ps → IsReadBack ps (SameEach same vs) (ReadsBitsOf n m)
  filled_back n vs ps p S T c r u takes room (NoBits empty w) =
      let none = none_wide vs ps p.1 (sym p.0 ∙ empty) in
      let same_stream = takes_nothing ps S T none.1 takes in
      let count : c ≡ c + breadth ps = omega (arith, ap breadth none.1) in
      answer_must [] (SameEach same vs) T (c + breadth ps) (subst (λ ys. SameEach same ys []) (sym none.0) tt) r u
      (subst (λ x. Answer [] false x r u) (ap (λ y. Going (Some y) c) same_stream ∙ ap (λ k. Going (Some T) k) count) w)
  filled_back n vs ps p S T c r u takes room (SomeBits some (EndsWith xs x k l turn on last over b e)) =
      let sum : c + breadth ps ≡ c + n = ap (λ k. c + k) (sym p.0) in
      let cut = last_step (TakesItem m) (Going (Some S) c) xs x u turn in
      let f = partway vs ps S T c (c + n) xs tt k cut.0 (omega (arith, some)) p.1 takes sum (omega (arith, room, sum)) cut.1 on in
      let behind = last_back f.others f.pieces f.at T f.count (c + n) x u f.more f.are f.takes f.sum (omega (arith, room, sum)) (subst (λ s. TakesItem m s x u) f.stands cut.2) (last.0 refl) in
      let alike_all = same_append same f.front (taken_items xs) f.others (x.item ∷ []) f.alike behind.0 in
      let joined : taken_items (xs ++ x ∷ []) ≡ taken_items xs ++ x.item ∷ [] = map-append (λ y. y.item) xs (x ∷ []) in
      inl (taken_items (xs ++ x ∷ []), subst (SameEach same vs) (sym joined) (subst (λ ys. SameEach same ys (taken_items xs ++ x.item ∷ [])) (sym f.split) alike_all), e, behind.1 ∙ ap (λ y. Going (Some T) y) (sym sum))
  filled_back n vs ps p S T c r u takes room (SomeBits some (Closes xs k t turn on closed over b e)) = absurd closed
  filled_back n vs ps p S T c r u takes room (SomeBits some (ItemRefused xs k t d turn on refusal over e)) =
      let sum : c + breadth ps ≡ c + n = ap (λ k. c + k) (sym p.0) in
      let f = partway vs ps S T c (c + n) xs tt k t (omega (arith, some)) p.1 takes sum (omega (arith, room, sum)) turn on in
      let none = next_refused f.others f.pieces f.at T f.count (c + n) d u f.more f.are f.takes f.sum (omega (arith, room, sum)) (subst (λ s. m false s (Err d) u) f.stands refusal) in
      inr (e ∙ ap Err none)
  filled_back n vs ps p S T c r u takes room (SomeBits some (WithoutWidth xs x k l d turn on judged narrow tells over b e)) =
      let sum : c + breadth ps ≡ c + n = ap (λ k. c + k) (sym p.0) in
      let cut = last_step (TakesItem m) (Going (Some S) c) xs x u turn in
      let f = partway vs ps S T c (c + n) xs tt k cut.0 (omega (arith, some)) p.1 takes sum (omega (arith, room, sum)) cut.1 on in
      absurd (narrow (next_widens f.others f.pieces f.at T f.count (c + n) x u f.more f.are f.takes f.sum (omega (arith, room, sum)) (subst (λ s. TakesItem m s x u) f.stands cut.2)))
  filled_back n vs ps p S T c r u takes room (SomeBits some (Unplaced xs x v k l turn on judged wide_or over b e)) = inr e

  -- ---- what is read
  each_taken : (xs : List Item) (S : Stream) (c : ℕ) (u : Standing (Option Stream)) → AllWiden xs → TakesEach m (Going (Some S) c) xs u → TakenAs (OfEachBroad P) (taken_items xs) S c u
  each_taken [] S c u all turn = record { taken = []; has = refl; rest = S; takes = refl; stands = sym turn ∙ ap (λ n. Going (Some S) n) (omega arith) }
  each_taken (x ∷ xs) S c u all (t, taken, turn) =
      let a = A.read x.item S c t taken.read in
      let b = each_taken xs a.rest (c + breadth a.taken) u all.1 (subst (λ s. TakesEach m s xs u) a.stands turn) in
      let before : count_of x.before ≡ c = ap count_of taken.from in
      let after : count_of x.after ≡ c + breadth a.taken = ap count_of taken.left ∙ ap count_of a.stands in
      let widens : count_of x.before < count_of x.after = all.0 in
      let broad : 0 < breadth a.taken = omega (arith, before, after, widens) in
      let sum : c + breadth a.taken + breadth b.taken ≡ c + breadth (a.taken ++ b.taken) = omega (arith, breadth-append a.taken b.taken) in
      record {
        taken = a.taken ++ b.taken;
        has = (a.taken, b.taken, (a.has, broad), b.has, refl);
        rest = b.rest;
        takes = takes_together a.taken b.taken S a.rest b.rest a.takes b.takes;
        stands = b.stands ∙ ap (λ n. Going (Some b.rest) n) sum;
      }

  -- before the last item not all bits are read
  not_all : (end : ℕ) (xs : List Item) (s t : Standing (Option Stream)) (j k : Unit {0}) → (count_of s ≡ end → ⊥) → TakesEach m s xs t → GoesOn (judge end) j xs k → count_of t ≡ end → ⊥
  not_all end [] s t j k less turn on is = less (ap count_of turn ∙ is)
  not_all end (x ∷ xs) s t j k less (w, taken, turn) (i, judged, on) is =
      not_all end xs w t i k (λ e. let whole : count_of x.after ≡ end = ap count_of taken.left ∙ e in let bad : false ≡ true = judged.0.1 whole in cc) turn on is

  -- the item with which all bits are read is broad
  last_widens : (n : ℕ) (xs : List Item) (x : Item) (S : Stream) (c : ℕ) (t u : Standing (Option Stream)) (k : Unit {0}) → 0 < n → TakesEach m (Going (Some S) c) xs t
      → GoesOn (judge (c + n)) tt xs k → TakesItem m t x u → count_of x.after ≡ c + n → Widens x
  last_widens n xs x S c t u k some turn on taken end =
      let f = each_taken xs S c t (each_widens (judge (c + n)) xs tt k on) turn in
      let a = A.read x.item f.rest (c + breadth f.taken) u (subst (λ s. m false s (Ok x.item) u) f.stands taken.read) in
      let here : count_of t ≡ c + breadth f.taken = ap count_of f.stands in
      let before : count_of x.before ≡ c + breadth f.taken = ap count_of taken.from ∙ here in
      let after : count_of x.after ≡ c + breadth f.taken + breadth a.taken = ap count_of taken.left ∙ ap count_of a.stands in
      let more : breadth a.taken ≡ 0 → ⊥ = λ none. not_all (c + n) xs (Going (Some S) c) t tt k (λ e. let none : c ≡ c + n = e in absurd (omega (arith, some, none))) turn on (omega (arith, here, after, end, none)) in
      let less = less_unless (c + breadth f.taken) (breadth a.taken) (c + n) (sym after ∙ end) more in
      omega (arith, before, end, less)

  filled_read : (n : ℕ) (vs : List V) (S : Stream) (c : ℕ) (u : Standing (Option Stream)) → ReadsBitsOf n m false (Going (Some S) c) (Ok vs) u → TakenAs (Filling n) vs S c u
  filled_read n vs S c u (NoBits empty w) =
      let d = answer_is [] vs (Going (Some S) c) u w in
      record { taken = []; has = (empty, subst (λ ys. OfEachBroad P ys []) (sym d.0) refl); rest = S; takes = refl; stands = d.1 ∙ ap (λ k. Going (Some S) k) (omega arith) }
  filled_read n vs S c u (SomeBits some (EndsWith xs x k l turn on last over b e)) =
      let all : vs ≡ taken_items (xs ++ x ∷ []) = ok_is vs (taken_items (xs ++ x ∷ [])) e in
      let cut = last_step (TakesItem m) (Going (Some S) c) xs x u turn in
      let last_broad = last_widens n xs x S c cut.0 u k some cut.1 on cut.2 (last.0 refl) in
      let a = each_taken (xs ++ x ∷ []) S c u (all_widen xs x (each_widens (judge (c + n)) xs tt k on) last_broad) turn in
      let end : c + breadth a.taken ≡ c + n = sym (ap count_of a.stands) ∙ sym (ap count_of cut.2.left) ∙ last.0 refl in
      record { taken = a.taken; has = (omega (arith, end), subst (λ ys. OfEachBroad P ys a.taken) (sym all) a.has); rest = a.rest; takes = a.takes; stands = a.stands }
  filled_read n vs S c u (SomeBits some (Closes xs k t turn on closed over b e)) = absurd closed
  filled_read n vs S c u (SomeBits some (ItemRefused xs k t d turn on refusal over e)) = absurd (cc)
  filled_read n vs S c u (SomeBits some (WithoutWidth xs x k l d turn on judged narrow tells over b e)) = absurd (cc)
  filled_read n vs S c u (SomeBits some (Unplaced xs x v k l turn on judged wide_or over b e)) = absurd (cc)

  filled_symmetric : (n : ℕ) → IsSymmetric (Filling n) (SameEach same) (λ vs. WritesExactly n (WritesEach writes vs)) (ReadsBitsOf n m)
  filled_symmetric n = record {
    one = λ vs ps qs p q. each_one P same writes m A vs ps qs (each_plain P vs ps p.1) (each_plain P vs qs q.1);
    written = λ vs ps p. exactly_written ps n (WritesEach writes vs) p.0 (each_written P same writes m A vs ps (each_plain P vs ps p.1));
    read_back = filled_back n;
    read = filled_read n;
  }

  -- ---- in memory that grows, of the size that a head says
  abbrev Fills : Option ℕ → Vec V → List Piece → Type 0
  Fills size v = OfSized size (λ w. OfEachBroad P w.items) v

  abbrev SameItems : Vec V → Vec V → Type 0
  SameItems v w = SameEach same v.items w.items

  abbrev Writes : Option ℕ → Vec V → Meaning Output (Unit {0})
  Writes size v = IfSized Assertion size (λ n. WritesExactly n (WritesEach writes v.items))

  abbrev Reads : Option ℕ → Meaning (Option Stream) (Vec V)
  Reads size = IfSized Parse size (λ n. MappedBy (λ xs v. v.items ≡ xs) (ReadsBitsOf n m))

  held_symmetric : (n : ℕ) → IsSymmetric (λ (v : Vec V). Filling n v.items) SameItems (λ v. WritesExactly n (WritesEach writes v.items)) (MappedBy (λ xs v. v.items ≡ xs) (ReadsBitsOf n m))
  held_symmetric n = holder_symmetric (λ (v : Vec V). v.items) _ _ _ _ (filled_symmetric n)

  fills_written : (size : Option ℕ) (v : Vec V) (ps : List Piece) → Fills size v ps → IsWrittenAs ps (Writes size v)
  fills_written None v ps p = let e = p.0 in absurd (cc)
  fills_written (Some n) v ps p = (held_symmetric n).written v ps (some_is n (breadth ps) p.0, p.1)

  fills_back : (size : Option ℕ) (v : Vec V) (ps : List Piece) → Fills size v ps → IsReadBack ps (SameItems v) (Reads size)
  fills_back None v ps p = let e = p.0 in absurd (cc)
  fills_back (Some n) v ps p = (held_symmetric n).read_back v ps (some_is n (breadth ps) p.0, p.1)

  fills_read : (size : Option ℕ) (v : Vec V) (S : Stream) (c : ℕ) (u : Standing (Option Stream)) → Reads size false (Going (Some S) c) (Ok v) u → TakenAs (Fills size) v S c u
  fills_read None v S c u (b, refused) = let e = refused.2 in absurd (cc)
  fills_read (Some n) v S c u q =
      let a = (held_symmetric n).read v S c u q in
      let h = a.has in
      record { taken = a.taken; has = (ap (λ k. Some k) h.0, h.1); rest = a.rest; takes = a.takes; stands = a.stands }

  fills_symmetric : (size : Option ℕ) → IsSymmetric (Fills size) SameItems (Writes size) (Reads size)
  fills_symmetric size = record {
    one = λ v ps qs p q. each_one P same writes m A v.items ps qs (each_plain P v.items ps p.1) (each_plain P v.items qs q.1);
    written = fills_written size;
    read_back = fills_back size;
    read = fills_read size;
  }

-- ---- a head and its items
module _ {V W X : Type 0} {P : V → List Piece → Type 0} {Q : W → List Piece → Type 0} {same_head : V → V → Type 0} {same_item : W → W → Type 0}
    {write_head : V → Meaning Output (Unit {0})} {write_item : W → Meaning Output (Unit {0})} {m : Meaning (Option Stream) V} {k : Meaning (Option Stream) W}
    (made : V → Vec W → X) (head : X → V) (items : X → Vec W) (is_head : (v : V) (w : Vec W) → head (made v w) ≡ v) (is_items : (v : V) (w : Vec W) → items (made v w) ≡ w)
    (size_of : V → Option ℕ) (alike : (v w : V) → same_head v w → size_of v ≡ size_of w)
    (A : IsSymmetric P same_head write_head m) (B : IsSymmetric Q same_item write_item k) where
  abbrev SameBoth : X → X → Type 0
  SameBoth x y = same_head (head x) (head y) × SameEach same_item (items x).items (items y).items

  made_same : (x : X) (v : V) (w : Vec W) → same_head (head x) v → SameEach same_item (items x).items w.items → SameBoth x (made v w)
  made_same x v w f g = (subst (same_head (head x)) (sym (is_head v w)) f, subst (λ z. SameEach same_item (items x).items z.items) (sym (is_items v w)) g)

  abbrev Of : X → List Piece → Type 0
  Of x = OfSizes size_of P (λ v. OfEachBroad Q v.items) (head x) (items x)

  both_symmetric : IsSymmetric Of SameBoth (λ x. Both (write_head (head x)) (IfSized Assertion (size_of (head x)) (λ n. WritesExactly n (WritesEach write_item (items x).items)))) (ReadsFilled made size_of m k)
  both_symmetric =
      indexed_symmetric made head items size_of P (λ size v. OfSized size (λ w. OfEachBroad Q w.items) v) same_head (λ v w. SameEach same_item v.items w.items) SameBoth
      write_head (λ size v. IfSized Assertion size (λ n. WritesExactly n (WritesEach write_item v.items))) m (λ size. IfSized Parse size (λ n. MappedBy (λ xs v. v.items ≡ xs) (ReadsBitsOf n k))) is_head is_items made_same alike A
      (fills_symmetric B)

  filled_written : (x : X) (ps : List Piece) → Of x ps → IsWrittenAs ps (WritesSizes size_of write_head (λ v. WritesEach write_item v.items) (head x) (items x))
  filled_written x ps (a, c, p, q, e) b s r u w =
      both_symmetric.written x ps (a, c, p, q, e) b s r u
      (later (size_of (head x)) (breadth c) (write_head (head x)) (λ n. WritesExactly n (WritesEach write_item (items x).items)) b s r u q.0 w)

  pub filled_by_symmetric : IsSymmetric Of SameBoth (λ x. WritesSizes size_of write_head (λ v. WritesEach write_item v.items) (head x) (items x)) (ReadsFilled made size_of m k)
  filled_by_symmetric = record { one = both_symmetric.one; written = filled_written; read_back = both_symmetric.read_back; read = both_symmetric.read }
