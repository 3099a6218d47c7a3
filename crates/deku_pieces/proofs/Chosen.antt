-- What is chosen by a first part is symmetric: the variants of an enum, each after its id.
use Rattle.std.proofs.Common.{◌≡◌, ℕ, suc, ◌+◌, false, List, ◌++◌, Option, Some, Ok, refl, ap, sym, ◌∙◌, subst, arith}
use Rattle.deku_bits.specs.Streams.{Stream}
use Rattle.deku_bits.specs.Pieces.{Piece}
use Rattle.deku_bits.specs.Standings.{Standing, Going, Output}
use Rattle.deku_bits.specs.Outcomes.{Meaning, Mapped, Value, Refusal}
use Rattle.deku.specs.Composing.{Then, Second, First, Both}
use Rattle.deku_pieces.specs.Symmetric.{breadth, IsWrittenAs, IsReadBack, TakenAs, IsSymmetric}
use Rattle.deku_pieces.specs.Pieces.{InTurn}
use Rattle.deku_pieces.proofs.Answering.{ok_is, mapped_must, then_must, Must}
use Rattle.deku_pieces.proofs.Turns.{breadth-append, takes_apart, takes_together, written_together, turns_one}

-- an id is none of the ids above it
pub not_above : (n k : ℕ) → n ≡ n + suc k → ⊥
not_above n k e = omega (arith, e)

-- ---- a first part that chooses how the rest is read
module _ {V X : Type 0} (first : X → V) (P : V → List Piece → Type 0) (same_first : V → V → Type 0) (write_first : V → Meaning Output (Unit {0})) (m : Meaning (Option Stream) V)
    (alike : (v w : V) → same_first v w → v ≡ w) (A : IsSymmetric P same_first write_first m)
    (Q : X → List Piece → Type 0) (same : X → X → Type 0) (write_rest : X → Meaning Output (Unit {0})) (k : V → Meaning (Option Stream) X)
    (B : (v : V) → IsSymmetric (λ x ps. (first x ≡ v) × Q x ps) same write_rest (k v)) where
  abbrev Chosen : X → List Piece → Type 0
  Chosen x = InTurn (P (first x)) (Q x)

  chosen_one : (x : X) (ps qs : List Piece) → Chosen x ps → Chosen x qs → qs ≡ ps
  chosen_one x = turns_one (P (first x)) (Q x) (A.one (first x)) (λ ps qs p q. (B (first x)).one x ps qs (refl, p) (refl, q))

  chosen_written : (x : X) (ps : List Piece) → Chosen x ps → IsWrittenAs ps (Both (write_first (first x)) (write_rest x))
  chosen_written x ps (a, b, p, q, e) =
      subst (λ y. IsWrittenAs y (Both (write_first (first x)) (write_rest x))) (sym e)
      (written_together a b (write_first (first x)) (write_rest x) (A.written (first x) a p) ((B (first x)).written x b (refl, q)))

  turns_back : (x : X) (a b : List Piece) → P (first x) a → Q x b → IsReadBack (a ++ b) (same x) (Then m k)
  turns_back x a b p q S T n r u takes room mean =
      let wide = breadth-append a b in
      let cut = takes_apart a b S T takes in
      let i : ℕ = n + breadth a in
      let j : ℕ = i + breadth b in
      let sum : j ≡ n + breadth (a ++ b) = omega (arith, wide) in
      let one : Must m (Going (Some S) n) (same_first (first x)) cut.0 i = λ r u. A.read_back (first x) a p S cut.0 n r u cut.1 (omega (arith, room, wide)) in
      let two : (v : V) → same_first (first x) v → Must (k v) (Going (Some cut.0) i) (same x) T j =
      λ v f r u. (B v).read_back x b (alike (first x) v f, q) cut.0 T i r u cut.2 (omega (arith, room, wide)) in
      subst (λ y. Must (Then m k) (Going (Some S) n) (same x) T y) sum
      (then_must m k (Going (Some S) n) (same_first (first x)) cut.0 i (same x) T j one two) r u mean

  chosen_back : (x : X) (ps : List Piece) → Chosen x ps → IsReadBack ps (same x) (Then m k)
  chosen_back x ps (a, b, p, q, e) = subst (λ y. IsReadBack y (same x) (Then m k)) (sym e) (turns_back x a b p q)

  chosen_read : (x : X) (S : Stream) (n : ℕ) (u : Standing (Option Stream)) → Then m k false (Going (Some S) n) (Ok x) u → TakenAs Chosen x S n u
  chosen_read x S n u (First e p is) = absurd (cc)
  chosen_read x S n u (Second v t p q) =
      let a = A.read v S n t p in
      let b = (B v).read x a.rest (n + breadth a.taken) u (subst (λ y. k v false y (Ok x) u) (a.stands) q) in
      let sum : n + breadth a.taken + breadth b.taken ≡ n + breadth (a.taken ++ b.taken) = omega (arith, breadth-append a.taken b.taken) in
      let h = b.has in
      record {
        taken = a.taken ++ b.taken;
        has = (a.taken, b.taken, subst (λ y. P y a.taken) (sym h.0) (a.has), h.1, refl);
        rest = b.rest;
        takes = takes_together a.taken b.taken S a.rest b.rest (a.takes) (b.takes);
        stands = b.stands ∙ ap (λ y. Going (Some b.rest) y) sum;
      }

  pub chosen_symmetric : IsSymmetric Chosen same (λ x. Both (write_first (first x)) (write_rest x)) (Then m k)
  chosen_symmetric = record { one = chosen_one; written = chosen_written; read_back = chosen_back; read = chosen_read }

-- ---- one variant: its fields, under its name
module _ {V X : Type 0} (f : V → X) (P : V → List Piece → Type 0) (same_fields : V → V → Type 0) (writes : V → Meaning Output (Unit {0})) (m : Meaning (Option Stream) V)
    (A : IsSymmetric P same_fields writes m) (Q : X → List Piece → Type 0) (same : X → X → Type 0)
    (fields : (x : X) (ps : List Piece) → Q x ps → (v : V) × (f v ≡ x) × P v ps) (named : (v : V) (ps : List Piece) → P v ps → Q (f v) ps)
    (alike : (v w : V) → same_fields v w → same (f v) (f w)) where
  pub variant_back : (x : X) (ps : List Piece) → Q x ps → IsReadBack ps (same x) (Mapped f m)
  variant_back x ps q S T n r u takes room =
      let v = fields x ps q in
      subst (λ y. Must (Mapped f m) (Going (Some S) n) (same y) T (n + breadth ps)) v.1
      (mapped_must f m (Going (Some S) n) (same_fields v.0) (same (f v.0)) T (n + breadth ps) (alike v.0) (λ r u. A.read_back v.0 ps v.2 S T n r u takes room)) r u

  pub variant_read : (x : X) (S : Stream) (n : ℕ) (u : Standing (Option Stream)) → Mapped f m false (Going (Some S) n) (Ok x) u → TakenAs Q x S n u
  variant_read x S n u (Refusal e p is) = absurd (cc)
  variant_read x S n u (Value v p is) =
      let a = A.read v S n u p in
      record { taken = a.taken; has = subst (λ y. Q y a.taken) (sym (ok_is x (f v) is)) (named v a.taken a.has); rest = a.rest; takes = a.takes; stands = a.stands }
