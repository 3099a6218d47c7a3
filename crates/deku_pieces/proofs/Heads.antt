-- A symmetric head with as many symmetric items as it says is symmetric.
use Rattle.std.proofs.Common.{◌≡◌, ℕ, ◌+◌, false, List, length, ◌++◌, Option, Some, Result, Ok, refl, ap, sym, ◌∙◌, subst, arith}
use Rattle.std.specs.Global.{Vec}
use Rattle.deku_bits.specs.Streams.{Stream}
use Rattle.deku_bits.specs.Pieces.{Piece}
use Rattle.deku_bits.specs.Standings.{Standing, Going, Output}
use Rattle.deku_bits.specs.Devices.{Health}
use Rattle.deku_bits.specs.declared.error.DekuError.{DekuError}
use Rattle.deku_bits.specs.Outcomes.{Meaning, Outcome, Mapped, Value, Refusal}
use Rattle.deku_bits.proofs.Handing.{weaker}
use Rattle.deku_num.specs.NumberCalls.{Refused, Passed}
use Rattle.deku.specs.Composing.{Then, Second, First, Both, WritesEach}
use Rattle.deku.specs.Limits.{MappedBy}
use Rattle.deku_pieces.specs.declared.counted.Counted.{Counted}
use Rattle.deku_pieces.specs.Symmetric.{breadth, IsWrittenAs, IsReadBack, TakenAs, IsSymmetric}
use Rattle.deku_pieces.specs.Pieces.{InTurn, SameEach}
use Rattle.deku_pieces.specs.Leading.{IsCounted, OfCounted, OfCounts, OfCountedBy, SameCountedBy, ReadsCounted, Uncounted, CountedItems, ReadsCountedBy, WritesCounts, WritesCountedBy}
use Rattle.deku_pieces.proofs.Answering.{ok_is, mapped_must, then_must, Must}
use Rattle.deku_pieces.proofs.Turns.{breadth-append, takes_apart, takes_together, written_together, turns_one}
use Rattle.deku_pieces.proofs.UnderCount.{counted_symmetric, holder_symmetric}

-- equal items where they are some
pub some_is : {V : Type 0} (v w : V) → ◌≡◌ {A = Option V} (Some v) (Some w) → v ≡ w
some_is v w e = cc

-- ---- a first part, and a second that its index chooses
module _ {I V W X : Type 0} (h : V → W → X) (first : X → V) (second : X → W) (index : V → I) (P : V → List Piece → Type 0) (Q : I → W → List Piece → Type 0)
    (same_first : V → V → Type 0) (same_second : W → W → Type 0) (same : X → X → Type 0)
    (write_first : V → Meaning Output (Unit {0})) (write_second : I → W → Meaning Output (Unit {0})) (m : Meaning (Option Stream) V) (k : I → Meaning (Option Stream) W)
    (is_first : (v : V) (w : W) → first (h v w) ≡ v) (is_second : (v : V) (w : W) → second (h v w) ≡ w)
    (is_same : (x : X) (v : V) (w : W) → same_first (first x) v → same_second (second x) w → same x (h v w)) (alike : (v w : V) → same_first v w → index v ≡ index w)
    (A : IsSymmetric P same_first write_first m) (B : (i : I) → IsSymmetric (Q i) same_second (write_second i) (k i)) where
  abbrev Indexed : X → List Piece → Type 0
  Indexed x = InTurn (P (first x)) (Q (index (first x)) (second x))

  abbrev ReadsIndexed : Meaning (Option Stream) X
  ReadsIndexed = Then m (λ v. Mapped (h v) (k (index v)))

  indexed_one : (x : X) (ps qs : List Piece) → Indexed x ps → Indexed x qs → qs ≡ ps
  indexed_one x = turns_one (P (first x)) (Q (index (first x)) (second x)) (A.one (first x)) ((B (index (first x))).one (second x))

  abbrev WritesIndexed : X → Meaning Output (Unit {0})
  WritesIndexed x = Both (write_first (first x)) (write_second (index (first x)) (second x))

  indexed_written : (x : X) (ps : List Piece) → Indexed x ps → IsWrittenAs ps (WritesIndexed x)
  indexed_written x ps (a, b, p, q, e) =
      subst (λ y. IsWrittenAs y (WritesIndexed x)) (sym e)
      (written_together a b (write_first (first x)) (write_second (index (first x)) (second x)) (A.written (first x) a p) ((B (index (first x))).written (second x) b q))

  turns_back : (x : X) (a b : List Piece) → P (first x) a → Q (index (first x)) (second x) b → IsReadBack (a ++ b) (same x) ReadsIndexed
  turns_back x a b p q S T n r u takes room mean =
      let wide = breadth-append a b in
      let cut = takes_apart a b S T takes in
      let i : ℕ = n + breadth a in
      let j : ℕ = i + breadth b in
      let sum : j ≡ n + breadth (a ++ b) = omega (arith, wide) in
      let one : Must m (Going (Some S) n) (same_first (first x)) cut.0 i = λ r u. A.read_back (first x) a p S cut.0 n r u cut.1 (omega (arith, room, wide)) in
      let two : (v : V) → same_first (first x) v → Must (k (index v)) (Going (Some cut.0) i) (same_second (second x)) T j =
      λ v f r u. (B (index v)).read_back (second x) b (subst (λ y. Q y (second x) b) (alike (first x) v f) q) cut.0 T i r u cut.2 (omega (arith, room, wide)) in
      subst (λ y. Must ReadsIndexed (Going (Some S) n) (same x) T y) sum
      (then_must m _ (Going (Some S) n) (same_first (first x)) cut.0 i (same x) T j one
      (λ v f. mapped_must (h v) (k (index v)) (Going (Some cut.0) i) (same_second (second x)) (same x) T j (λ w g. is_same x v w f g) (two v f))) r u mean

  indexed_back : (x : X) (ps : List Piece) → Indexed x ps → IsReadBack ps (same x) ReadsIndexed
  indexed_back x ps (a, b, p, q, e) = subst (λ y. IsReadBack y (same x) ReadsIndexed) (sym e) (turns_back x a b p q)

  parts_read : (v : V) (w : W) (S : Stream) (n : ℕ) (t u : Standing (Option Stream)) → TakenAs P v S n t → k (index v) false t (Ok w) u → TakenAs Indexed (h v w) S n u
  parts_read v w S n t u a q =
      let b = (B (index v)).read w a.rest (n + breadth a.taken) u (subst (λ x. k (index v) false x (Ok w) u) (a.stands) q) in
      let sum : n + breadth a.taken + breadth b.taken ≡ n + breadth (a.taken ++ b.taken) = omega (arith, breadth-append a.taken b.taken) in
      let behind : Q (index (first (h v w))) (second (h v w)) b.taken =
      subst (λ y. Q (index y) (second (h v w)) b.taken) (sym (is_first v w)) (subst (λ y. Q (index v) y b.taken) (sym (is_second v w)) (b.has)) in
      record {
        taken = a.taken ++ b.taken;
        has = (a.taken, b.taken, subst (λ x. P x a.taken) (sym (is_first v w)) (a.has), behind, refl);
        rest = b.rest;
        takes = takes_together a.taken b.taken S a.rest b.rest (a.takes) (b.takes);
        stands = b.stands ∙ ap (λ x. Going (Some b.rest) x) sum;
      }

  indexed_read : (x : X) (S : Stream) (n : ℕ) (u : Standing (Option Stream)) → ReadsIndexed false (Going (Some S) n) (Ok x) u → TakenAs Indexed x S n u
  indexed_read x S n u (Second v t p (Value w q e)) = subst (λ z. TakenAs Indexed z S n u) (sym (ok_is x (h v w) e)) (parts_read v w S n t u (A.read v S n t p) q)
  indexed_read x S n u (Second v t p (Refusal e q is)) = absurd (cc)
  indexed_read x S n u (First e p is) = absurd (cc)

  pub indexed_symmetric : IsSymmetric Indexed same WritesIndexed ReadsIndexed
  indexed_symmetric = record { one = indexed_one; written = indexed_written; read_back = indexed_back; read = indexed_read }

-- ---- as many items as are counted
module _ {V : Type 0} {P : V → List Piece → Type 0} {same : V → V → Type 0} {writes : V → Meaning Output (Unit {0})} {m : Meaning (Option Stream) V} (A : IsSymmetric P same writes m) where
  pub items_symmetric : (n : ℕ) → IsSymmetric (λ (w : Vec V) ps. (length w.items ≡ n) × Rattle.deku_pieces.specs.Pieces.OfEach P w.items ps) (λ w x. SameEach same w.items x.items) (λ w. WritesEach writes w.items)
      (MappedBy (λ xs v. v.items ≡ xs) (Rattle.deku.specs.Limits.ReadsCount n m))
  items_symmetric n = holder_symmetric (λ (w : Vec V). w.items) _ _ _ _ (counted_symmetric P same writes m A n)

  counted_one : (count : Option ℕ) (w : Vec V) (ps qs : List Piece) → OfCounted count P w ps → OfCounted count P w qs → qs ≡ ps
  counted_one count w ps qs (n, is, p) (k, other, q) = (items_symmetric n).one w ps qs p (subst (λ i. (length w.items ≡ i) × Rattle.deku_pieces.specs.Pieces.OfEach P w.items qs) (some_is k n (sym other ∙ is)) q)

  counted_back : (count : Option ℕ) (w : Vec V) (ps : List Piece) → OfCounted count P w ps → IsReadBack ps (λ x. SameEach same w.items x.items) (ReadsCounted count m)
  counted_back count w ps (n, is, p) S T c r u takes room (Uncounted b none refused) = absurd (cc)
  counted_back count w ps (n, is, p) S T c r u takes room (CountedItems k other q) =
      (items_symmetric n).read_back w ps p S T c r u takes room
      (subst (λ i. MappedBy (λ xs v. v.items ≡ xs) (Rattle.deku.specs.Limits.ReadsCount i m) false (Going (Some S) c) r u) (some_is k n (sym other ∙ is)) q)

  counted_read : (count : Option ℕ) (w : Vec V) (S : Stream) (c : ℕ) (u : Standing (Option Stream)) → ReadsCounted count m false (Going (Some S) c) (Ok w) u → TakenAs (OfCounted count P) w S c u
  counted_read count w S c u (Uncounted b none refused) = let e = refused.1 in absurd (cc)
  counted_read count w S c u (CountedItems n is q) =
      let a = (items_symmetric n).read w S c u q in
      record { taken = a.taken; has = (n, is, a.has); rest = a.rest; takes = a.takes; stands = a.stands }

  pub counted_items_symmetric : (count : Option ℕ) → IsSymmetric (OfCounted count P) (λ w x. SameEach same w.items x.items) (λ w. WritesEach writes w.items) (ReadsCounted count m)
  counted_items_symmetric count = record {
    one = counted_one count;
    written = λ w ps p. (items_symmetric p.0).written w ps p.2;
    read_back = counted_back count;
    read = counted_read count;
  }

-- ---- a head and its items
module _ {V W : Type 0} {P : V → List Piece → Type 0} {Q : W → List Piece → Type 0} {same_head : V → V → Type 0} {same_item : W → W → Type 0}
    {write_head : V → Meaning Output (Unit {0})} {write_item : W → Meaning Output (Unit {0})} {m : Meaning (Option Stream) V} {k : Meaning (Option Stream) W}
    (count_of : V → Option ℕ) (alike : (v w : V) → same_head v w → count_of v ≡ count_of w) (A : IsSymmetric P same_head write_head m) (B : IsSymmetric Q same_item write_item k) where
  abbrev made : V → Vec W → Counted V W
  made h xs = record { head = h; items = xs }

  whole_symmetric : IsSymmetric (OfCountedBy count_of P Q) (SameCountedBy same_head same_item) (λ x. Both (write_head x.head) (WritesEach write_item x.items.items)) (ReadsCountedBy count_of m k)
  whole_symmetric =
      indexed_symmetric made (λ x. x.head) (λ x. x.items) count_of P (λ count. OfCounted count Q) same_head _ (SameCountedBy same_head same_item)
      write_head (λ _ w. WritesEach write_item w.items) m _ (λ v w. refl) (λ v w. refl) (λ x v w f g. (f, g)) alike A (counted_items_symmetric B)

  led_written : (x : Counted V W) (ps : List Piece) → OfCountedBy count_of P Q x ps → IsWrittenAs ps (WritesCountedBy count_of write_head write_item x)
  led_written x ps (a, c, p, (n, is, q), e) b s r u (Refused f d) = absurd (d.0 (is ∙ ap (λ i. Some i) (sym q.0)))
  led_written x ps p b s r u (Passed w) = whole_symmetric.written x ps p b s r u w.1

  pub counted_by_symmetric : IsSymmetric (OfCountedBy count_of P Q) (SameCountedBy same_head same_item) (WritesCountedBy count_of write_head write_item) (ReadsCountedBy count_of m k)
  counted_by_symmetric = record { one = whole_symmetric.one; written = led_written; read_back = whole_symmetric.read_back; read = whole_symmetric.read }

-- ---- a head and its items, in a value that is made of both
module _ {V W X : Type 0} {P : V → List Piece → Type 0} {Q : W → List Piece → Type 0} {same_head : V → V → Type 0} {same_item : W → W → Type 0}
    {write_head : V → Meaning Output (Unit {0})} {write_item : W → Meaning Output (Unit {0})} {m : Meaning (Option Stream) V} {k : Meaning (Option Stream) W}
    (made : V → Vec W → X) (head : X → V) (items : X → Vec W) (is_head : (v : V) (w : Vec W) → head (made v w) ≡ v) (is_items : (v : V) (w : Vec W) → items (made v w) ≡ w)
    (count_of : V → Option ℕ) (alike : (v w : V) → same_head v w → count_of v ≡ count_of w) (A : IsSymmetric P same_head write_head m) (B : IsSymmetric Q same_item write_item k) where
  abbrev SameItems : Vec W → Vec W → Type 0
  SameItems v w = SameEach same_item v.items w.items

  abbrev SameBoth : X → X → Type 0
  SameBoth x y = same_head (head x) (head y) × SameItems (items x) (items y)

  both_same : (x : X) (v : V) (w : Vec W) → same_head (head x) v → SameItems (items x) w → SameBoth x (made v w)
  both_same x v w f g = (subst (same_head (head x)) (sym (is_head v w)) f, subst (SameItems (items x)) (sym (is_items v w)) g)

  both_symmetric : IsSymmetric (λ x. OfCounts count_of P Q (head x) (items x)) SameBoth (λ x. Both (write_head (head x)) (WritesEach write_item (items x).items))
      (Then m (λ h. Mapped (made h) (ReadsCounted (count_of h) k)))
  both_symmetric =
      indexed_symmetric made head items count_of P (λ count. OfCounted count Q) same_head SameItems SameBoth
      write_head (λ _ w. WritesEach write_item w.items) m (λ count. ReadsCounted count k) is_head is_items both_same alike A (counted_items_symmetric B)

  counts_written : (x : X) (ps : List Piece) → OfCounts count_of P Q (head x) (items x) ps → IsWrittenAs ps (WritesCounts count_of write_head write_item (head x) (items x))
  counts_written x ps (a, c, p, (n, is, q), e) b s r u (Refused f d) = absurd (d.0 (is ∙ ap (λ i. Some i) (sym q.0)))
  counts_written x ps p b s r u (Passed w) = both_symmetric.written x ps p b s r u w.1

  pub counts_symmetric : IsSymmetric (λ x. OfCounts count_of P Q (head x) (items x)) SameBoth (λ x. WritesCounts count_of write_head write_item (head x) (items x))
      (Then m (λ h. Mapped (made h) (ReadsCounted (count_of h) k)))
  counts_symmetric = record { one = both_symmetric.one; written = counts_written; read_back = both_symmetric.read_back; read = both_symmetric.read }

-- ---- calls
-- a head and items that are in step are written
pub written_counts : {V W : Type 0} (count_of : V → Option ℕ) (write_head : V → Meaning Output (Unit {0})) (write_item : W → Meaning Output (Unit {0})) (h : V) (xs : Vec W)
    {s : Standing Output} {a : Health} {r : Result (Unit {0}) DekuError} {u : Standing Output} {z : Health}
    → IsCounted (count_of h) (length xs.items) → Outcome (Both (write_head h) (WritesEach write_item xs.items)) s a r u z
    → Outcome (WritesCounts count_of write_head write_item h xs) s a r u z
written_counts count_of write_head write_item h xs e o = weaker _ _ _ _ _ _ _ (λ b m. Passed (e, m)) o

-- items that are as many as the head says are written after it
pub written_in_step : {V W : Type 0} (count_of : V → Option ℕ) (write_head : V → Meaning Output (Unit {0})) (write_item : W → Meaning Output (Unit {0})) (v : Counted V W)
    {s : Standing Output} {a : Health} {r : Result (Unit {0}) DekuError} {u : Standing Output} {z : Health}
    → IsCounted (count_of v.head) (length v.items.items) → Outcome (Both (write_head v.head) (WritesEach write_item v.items.items)) s a r u z
    → Outcome (WritesCountedBy count_of write_head write_item v) s a r u z
written_in_step count_of write_head write_item v e o = weaker _ _ _ _ _ _ _ (λ b m. Passed (e, m)) o
