-- So many symmetric items, in memory that grows, are symmetric.
use Rattle.std.proofs.Common.{◌≡◌, ℕ, suc, ◌+◌, ◌<◌, ◌≤◌, ◌^◌, false, List, [], ◌∷◌, ◌++◌, length, Option, Some, Ok, Err, refl, ap, sym, ◌∙◌, subst, inl, inr, arith, append-nil, length-append}
use Rattle.std.specs.declared.io.ErrorKind.TheVariants.{OutOfMemory}
use Rattle.deku_bits.specs.declared.error.DekuError.{DekuError}
use Rattle.deku_bits.specs.declared.error.DekuError.TheVariants.{Io}
use Rattle.deku_bits.specs.Streams.{Stream}
use Rattle.deku_bits.specs.Pieces.{Piece}
use Rattle.deku_bits.specs.Symmetry.{Takes}
use Rattle.deku_bits.specs.Standings.{Standing, Going, Output}
use Rattle.deku_bits.specs.Outcomes.{Meaning}
use Rattle.deku_num.specs.NumberCalls.{Refused, Passed}
use Rattle.deku.specs.Composing.{Answered, Second, First, WritesEach}
use Rattle.deku.specs.Lists as lists
use Rattle.deku.specs.Lists.{AnswersEach, Stored, Until}
use Rattle.deku.specs.Limits.{ReadsCount, MappedBy, ValueBy, RefusalBy}
use Rattle.deku_pieces.specs.Symmetric.{breadth, IsReadBack, Answers, TakenAs, IsSymmetric}
use Rattle.deku_pieces.specs.Pieces.{OfEach, OfTimes, SameEach}
use Rattle.deku_pieces.proofs.Answering.{ok_is, err_at}
use Rattle.deku_pieces.proofs.Turns.{breadth-append, takes_apart, takes_together}
use Rattle.deku_pieces.proofs.Times.{each_one, each_written}

module _ {V : Type 0} (P : V → List Piece → Type 0) (same : V → V → Type 0) (writes : V → Meaning Output (Unit {0})) (m : Meaning (Option Stream) V) (A : IsSymmetric P same writes m) where
  -- ---- read back
  -- some of the items were read, as the same; the pieces of the others are still to be taken
  record Partway (vs : List V) (T : Stream) (ws : List V) (end : ℕ) (u : Standing (Option Stream)) : Type 0 where
    front : List V
    others : List V
    pieces : List Piece
    at : Stream
    count : ℕ
    split : vs ≡ front ++ others
    alike : SameEach same front ws
    are : OfEach P others pieces
    takes : Takes pieces at T
    stands : u ≡ Going (Some at) count
    sum : count + breadth pieces ≡ end

  -- an item that is read back as the same
  pub next_back : (v : V) (x : List Piece) (S U : Stream) (c : ℕ) (w : V) (t : Standing (Option Stream)) → P v x → Takes x S U → c + breadth x < 2 ^ 64
      → Stored m false (Going (Some S) c) (Ok w) t → same v w × (t ≡ Going (Some U) (c + breadth x))
  next_back v x S U c w t p takes room (First e k q) = absurd (cc)
  next_back v x S U c w t p takes room (Second z y k (Refused b none)) = let d = none.0 in absurd (cc)
  next_back v x S U c w t p takes room (Second z y k (Passed Answered)) = go (A.read_back v x p S U c (Ok w) t takes room k)
    where
      go : Answers (same v) U (c + breadth x) (Ok w) t → same v w × (t ≡ Going (Some U) (c + breadth x))
      go (inl (z, f, is, stands)) = (subst (same v) (sym (ok_is w z is)) f, stands)
      go (inr is) = absurd (cc)

  partway : (vs : List V) (ps : List Piece) (S T : Stream) (c end : ℕ) (ws : List V) (u : Standing (Option Stream)) → OfEach P vs ps → Takes ps S T → c + breadth ps ≡ end → end < 2 ^ 64
      → length ws ≤ length vs → AnswersEach (Stored m) ws (Going (Some S) c) u → Partway vs T ws end u
  partway vs ps S T c end [] u are takes sum room less turn =
      record { front = []; others = vs; pieces = ps; at = S; count = c; split = refl; alike = tt; are = are; takes = takes; stands = turn; sum = sum }
  partway [] ps S T c end (w ∷ ws) u are takes sum room less turn = absurd (omega (arith, less))
  partway (v ∷ vs) ps S T c end (w ∷ ws) u (x, y, p, q, e) takes sum room less (t, stored, turn) =
      let wide : breadth ps ≡ breadth x + breadth y = ap breadth e ∙ breadth-append x y in
      let cut = takes_apart x y S T (rw e at takes) in
      let it = next_back v x S cut.0 c w t p cut.1 (omega (arith, room, sum, wide)) stored in
      let k = partway vs y cut.0 T (c + breadth x) end ws u q cut.2 (omega (arith, sum, wide)) room (omega (arith, less)) (subst (λ s. AnswersEach (Stored m) ws s u) it.1 turn) in
      record {
        front = v ∷ k.front;
        others = k.others;
        pieces = k.pieces;
        at = k.at;
        count = k.count;
        split = ap (λ zs. v ∷ zs) k.split;
        alike = (it.0, k.alike);
        are = k.are;
        takes = k.takes;
        stands = k.stands;
        sum = k.sum;
      }

  same_length : (vs ws : List V) → SameEach same vs ws → length vs ≡ length ws
  same_length [] [] f = refl
  same_length [] (w ∷ ws) f = absurd f
  same_length (v ∷ vs) [] f = absurd f
  same_length (v ∷ vs) (w ∷ ws) f = ap suc (same_length vs ws f.1)

  none_left : (others : List V) (pieces : List Piece) (S T : Stream) → others ≡ [] → OfEach P others pieces → Takes pieces S T → (S ≡ T) × (breadth pieces ≡ 0)
  none_left others pieces S T e are takes =
      let none : pieces ≡ [] = rw e at are in
      (rw none at takes, ap breadth none)

  nothing_more : (vs front others : List V) → vs ≡ front ++ others → length front ≡ length vs → others ≡ []
  nothing_more vs front [] e l = refl
  nothing_more vs front (v ∷ others) e l = absurd (omega (arith, ap length e, length-append front (v ∷ others), l))

  all_back : (vs ws : List V) (T : Stream) (end : ℕ) (u : Standing (Option Stream)) → length ws ≡ length vs → Partway vs T ws end u → SameEach same vs ws × (u ≡ Going (Some T) end)
  all_back vs ws T end u l k =
      let more = nothing_more vs k.front k.others k.split (same_length k.front ws k.alike ∙ l) in
      let none = none_left k.others k.pieces k.at T more k.are k.takes in
      let front : vs ≡ k.front = k.split ∙ ap (λ x. k.front ++ x) more ∙ append-nil k.front in
      let count : k.count ≡ end = omega (arith, k.sum, none.1) in
      (subst (λ x. SameEach same x ws) (sym front) k.alike, k.stands ∙ ap (λ x. Going (Some x) k.count) none.0 ∙ ap (λ n. Going (Some T) n) count)

  -- the next item is refused for lack of memory alone
  pub next_refused : (others : List V) (ps : List Piece) (S T : Stream) (c : ℕ) (e : DekuError) (u : Standing (Option Stream)) → 0 < length others → OfEach P others ps → Takes ps S T
      → c + breadth ps < 2 ^ 64 → Stored m false (Going (Some S) c) (Err e) u → e ≡ Io OutOfMemory
  next_refused [] ps S T c e u some are takes room k = absurd (omega (arith, some))
  next_refused (v ∷ vs) ps S T c e u some (x, y, p, q, is) takes room (Second w t k (Refused b none)) = let d = none.0 in cc
  next_refused (v ∷ vs) ps S T c e u some (x, y, p, q, is) takes room (Second w t k (Passed put)) = elim put [ ]
  next_refused (v ∷ vs) ps S T c e u some (x, y, p, q, is) takes room (First d k same_refusal) =
      let wide : breadth ps ≡ breadth x + breadth y = ap breadth is ∙ breadth-append x y in
      let cut = takes_apart x y S T (rw is at takes) in
      go (A.read_back v x p S cut.0 c (Err d) u cut.1 (omega (arith, room, wide)) k)
    where
      go : {U : Stream} {n : ℕ} → Answers (same v) U n (Err d) u → e ≡ Io OutOfMemory
      go (inl (w, f, is, stands)) = absurd (cc)
      go (inr is) = cc

  some_left : (vs front others ws : List V) → vs ≡ front ++ others → length front ≡ length ws → length ws < length vs → 0 < length others
  some_left vs front others ws e l less = omega (arith, ap length e, length-append front others, l, less)

  counted_back : (n : ℕ) (vs : List V) (ps : List Piece) → length vs ≡ n → OfEach P vs ps → IsReadBack ps (SameEach same vs) (ReadsCount n m)
  counted_back n vs ps l are S T c r u takes room (Until ws turn long b e) =
      let k = partway vs ps S T c (c + breadth ps) ws u are takes refl room (omega (arith, long, l)) turn in
      let all = all_back vs ws T (c + breadth ps) u (long ∙ sym l) k in
      inl (ws, all.0, e, all.1)
  counted_back n vs ps l are S T c r u takes room (lists.NextRefused ws t e turn less refusal q) =
      let k = partway vs ps S T c (c + breadth ps) ws t are takes refl room (omega (arith, less, l)) turn in
      let some = some_left vs k.front k.others ws k.split (same_length k.front ws k.alike) (omega (arith, less, l)) in
      let none = next_refused k.others k.pieces k.at T k.count e u some k.are k.takes (omega (arith, k.sum, room)) (subst (λ x. Stored m false x (Err e) u) k.stands refusal) in
      inr (q ∙ ap Err none)

  -- ---- what is read
  item_read : (v : V) (S : Stream) (c : ℕ) (t : Standing (Option Stream)) → Stored m false (Going (Some S) c) (Ok v) t → TakenAs P v S c t
  item_read v S c t (First e k q) = absurd (cc)
  item_read v S c t (Second z y k (Refused b none)) = let d = none.0 in absurd (cc)
  item_read v S c t (Second z y k (Passed Answered)) = A.read v S c t k

  pub each_read : (vs : List V) (S : Stream) (c : ℕ) (u : Standing (Option Stream)) → AnswersEach (Stored m) vs (Going (Some S) c) u → TakenAs (OfEach P) vs S c u
  each_read [] S c u turn = record { taken = []; has = refl; rest = S; takes = refl; stands = turn ∙ ap (λ n. Going (Some S) n) (omega arith) }
  each_read (v ∷ vs) S c u (t, stored, turn) =
      let a = item_read v S c t stored in
      let b = each_read vs a.rest (c + breadth a.taken) u (subst (λ s. AnswersEach (Stored m) vs s u) (a.stands) turn) in
      let sum : c + breadth a.taken + breadth b.taken ≡ c + breadth (a.taken ++ b.taken) = omega (arith, breadth-append a.taken b.taken) in
      record {
        taken = a.taken ++ b.taken;
        has = (a.taken, b.taken, a.has, b.has, refl);
        rest = b.rest;
        takes = takes_together a.taken b.taken S a.rest b.rest (a.takes) (b.takes);
        stands = b.stands ∙ ap (λ n. Going (Some b.rest) n) sum;
      }

  counted_read : (n : ℕ) (vs : List V) (S : Stream) (c : ℕ) (u : Standing (Option Stream)) → ReadsCount n m false (Going (Some S) c) (Ok vs) u → TakenAs (OfTimes n P) vs S c u
  counted_read n vs S c u (lists.NextRefused ws t e turn less refusal q) = absurd (cc)
  counted_read n vs S c u (Until ws turn long b e) =
      let same_items : vs ≡ ws = ok_is vs ws e in
      let a = each_read vs S c u (subst (λ x. AnswersEach (Stored m) x (Going (Some S) c) u) (sym same_items) turn) in
      record { taken = a.taken; has = (ap length same_items ∙ long, a.has); rest = a.rest; takes = a.takes; stands = a.stands }

  -- exactly n items are read into memory that grows, and written one after the other
  pub counted_symmetric : (n : ℕ) → IsSymmetric (OfTimes n P) (SameEach same) (WritesEach writes) (ReadsCount n m)
  counted_symmetric n = record {
    one = λ vs ps qs p q. each_one P same writes m A vs ps qs p.1 q.1;
    written = λ vs ps p. each_written P same writes m A vs ps p.1;
    read_back = λ vs ps p. counted_back n vs ps p.0 p.1;
    read = counted_read n;
  }

-- ---- what holds items that are seen
module _ {V W : Type 0} (view : W → V) (P : V → List Piece → Type 0) (same : V → V → Type 0) (writes : V → Meaning Output (Unit {0})) (m : Meaning (Option Stream) V) (A : IsSymmetric P same writes m) where
  holder_back : (w : W) (ps : List Piece) → P (view w) ps → IsReadBack ps (λ x. same (view w) (view x)) (MappedBy (λ v x. view x ≡ v) m)
  holder_back w ps p S T n r u takes room (ValueBy v x k is q) = go (A.read_back (view w) ps p S T n (Ok v) u takes room k)
    where
      go : Answers (same (view w)) T (n + breadth ps) (Ok v) u → Answers (λ x. same (view w) (view x)) T (n + breadth ps) r u
      go (inl (z, f, e, stands)) = inl (x, subst (same (view w)) (sym (is ∙ ok_is v z e)) f, q, stands)
      go (inr e) = absurd (cc)
  holder_back w ps p S T n r u takes room (RefusalBy e k q) = go (A.read_back (view w) ps p S T n (Err e) u takes room k)
    where
      go : Answers (same (view w)) T (n + breadth ps) (Err e) u → Answers (λ x. same (view w) (view x)) T (n + breadth ps) r u
      go (inl (z, f, is, stands)) = absurd (cc)
      go (inr is) = inr (q ∙ err_at e (Io OutOfMemory) is)

  holder_read : (w : W) (S : Stream) (n : ℕ) (u : Standing (Option Stream)) → MappedBy (λ v x. view x ≡ v) m false (Going (Some S) n) (Ok w) u → TakenAs (λ x. P (view x)) w S n u
  holder_read w S n u (RefusalBy e k q) = absurd (cc)
  holder_read w S n u (ValueBy v x k is q) =
      let a = A.read v S n u k in
      let seen : v ≡ view w = sym is ∙ ap view (sym (ok_is w x q)) in
      record { taken = a.taken; has = subst (λ y. P y a.taken) seen (a.has); rest = a.rest; takes = a.takes; stands = a.stands }

  pub holder_symmetric : IsSymmetric (λ w. P (view w)) (λ w x. same (view w) (view x)) (λ w. writes (view w)) (MappedBy (λ v x. view x ≡ v) m)
  holder_symmetric = record { one = λ w. A.one (view w); written = λ w. A.written (view w); read_back = holder_back; read = holder_read }
