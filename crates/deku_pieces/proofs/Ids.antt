-- What an id chooses is symmetric, and so are an id and what it chooses.
use Rattle.std.proofs.Common.{◌≡◌, ℕ, ◌+◌, Bool, true, false, ◌&&◌, not, List, Option, Some, Result, Ok, refl, ap, sym, ◌∙◌, subst, inl, inr}
use Rattle.deku_bits.specs.declared.error.DekuError.{DekuError}
use Rattle.deku_bits.specs.Devices.{Health}
use Rattle.deku_bits.specs.Streams.{Stream}
use Rattle.deku_bits.specs.Pieces.{Piece}
use Rattle.deku_bits.specs.Standings.{Standing, Going, Output}
use Rattle.deku_bits.specs.Outcomes.{Meaning, Outcome, Mapped, Value, Refusal}
use Rattle.deku_bits.proofs.Handing.{weaker}
use Rattle.deku.specs.Composing.{Both}
use Rattle.deku_num.specs.NumberCalls.{Refused, Passed}
use Rattle.deku_pieces.specs.declared.either.Either.{Either}
use Rattle.deku_pieces.specs.declared.either.Either.TheVariants.{This, Other}
use Rattle.deku_pieces.specs.Symmetric.{breadth, IsWrittenAs, IsReadBack, TakenAs, IsSymmetric}
use Rattle.deku_pieces.specs.Pieces.{InTurn}
use Rattle.std.specs.Prelude.{nat_eq}
use Rattle.std.proofs.lemmas.Bool.{eqb-true, eq-eqb}
use Rattle.deku_pieces.specs.Ids.{in_range, id_of_either, is_own, UnderOwn, OfEither, OfEnum, SameEither, IfKnown, ReadsEither, WritesEither, ReadsEnum, WritesEnum}
use Rattle.deku_pieces.proofs.Answering.{ok_is, mapped_must}
use Rattle.deku_pieces.proofs.Chosen.{chosen_symmetric}
use Rattle.deku_pieces.proofs.Turned.{mapped_symmetric}

-- ---- truth values
-- both hold if their conjunction does
both_true : (a b : Bool) → (a && b) ≡ true → (a ≡ true) × (b ≡ true)
both_true true true e = (refl, refl)
both_true true false e = absurd (cc)
both_true false b e = absurd (cc)

and_true : (a b : Bool) → a ≡ true → b ≡ true → (a && b) ≡ true
and_true true true e d = refl
and_true true false e d = d
and_true false b e d = e

not_true : (a : Bool) → not a ≡ true → a ≡ false
not_true true e = absurd (cc)
not_true false e = refl

not_false : (a : Bool) → a ≡ false → not a ≡ true
not_false true e = absurd (cc)
not_false false e = refl

true_false : {a : Bool} → a ≡ true → a ≡ false → ⊥
true_false e d = cc

-- ---- calls
-- under an id that is known
pub known_read : {V : Type 0} {known : Bool} {m : Meaning (Option Stream) V} {s : Standing (Option Stream)} {f : Health} {r : Result V DekuError} {u : Standing (Option Stream)} {g : Health}
    → known ≡ true → Outcome m s f r u g → Outcome (IfKnown known m) s f r u g
known_read e o = weaker _ _ _ _ _ _ _ (λ b p. Passed (e, p)) o

-- under an id of the first kind
pub this_read : {V W : Type 0} {known : Bool} {m : Meaning (Option Stream) V} {k : Meaning (Option Stream) W} {s : Standing (Option Stream)} {f : Health} {r : Result (Either V W) DekuError}
    {u : Standing (Option Stream)} {g : Health} → known ≡ true → Outcome (Mapped This m) s f r u g → Outcome (ReadsEither known m k) s f r u g
this_read {m} {k} e o = weaker _ _ _ _ _ _ _ (λ b p. inl (e, p)) o

-- under another
pub other_read : {V W : Type 0} {known : Bool} {m : Meaning (Option Stream) V} {k : Meaning (Option Stream) W} {s : Standing (Option Stream)} {f : Health} {r : Result (Either V W) DekuError}
    {u : Standing (Option Stream)} {g : Health} → known ≡ false → Outcome (Mapped Other k) s f r u g → Outcome (ReadsEither known m k) s f r u g
other_read {m} {k} e o = weaker _ _ _ _ _ _ _ (λ b p. inr (e, p)) o

-- a value whose id chooses it is written after the id
pub written_own : {V : Type 0} (write_id : ℕ → Meaning Output (Unit {0})) (id_of : V → ℕ) (own : V → Bool) (writes : V → Meaning Output (Unit {0})) (v : V)
    {s : Standing Output} {a : Health} {r : Result (Unit {0}) DekuError} {u : Standing Output} {z : Health}
    → own v ≡ true → Outcome (Both (write_id (id_of v)) (writes v)) s a r u z → Outcome (WritesEnum write_id id_of own writes v) s a r u z
written_own write_id id_of own writes v e o = weaker _ _ _ _ _ _ _ (λ b m. Passed (e, m)) o

-- ---- the same pieces, said otherwise
pub alike_pieces : {V : Type 0} {P Q : V → List Piece → Type 0} {same : V → V → Type 0} {writes : V → Meaning Output (Unit {0})} {m : Meaning (Option Stream) V}
    → ((v : V) (ps : List Piece) → Q v ps → P v ps) → ((v : V) (ps : List Piece) → P v ps → Q v ps) → IsSymmetric P same writes m → IsSymmetric Q same writes m
alike_pieces {P} {Q} to from A = record {
  one = λ v ps qs p q. A.one v ps qs (to v ps p) (to v qs q);
  written = λ v ps p. A.written v ps (to v ps p);
  read_back = λ v ps p. A.read_back v ps (to v ps p);
  read = λ v S n u w. let a = A.read v S n u w in record { taken = a.taken; has = from v a.taken a.has; rest = a.rest; takes = a.takes; stands = a.stands };
}

-- ---- one kind of values
module _ {X : Type 0} {P : X → List Piece → Type 0} {same : X → X → Type 0} {writes : X → Meaning Output (Unit {0})} {m : Meaning (Option Stream) X}
    (id : ℕ) (known : Bool) (id_of : X → ℕ) (own : X → Bool) (Q : X → List Piece → Type 0) (A : IsSymmetric P same writes m)
    (knows : (x : X) → id ≡ id_of x → own x ≡ true → known ≡ true)
    (to : (x : X) (ps : List Piece) → id ≡ id_of x → Q x ps → P x ps)
    (from : (x : X) (ps : List Piece) → known ≡ true → P x ps → UnderOwn id_of own Q id x ps) where
  kind_back : (x : X) (ps : List Piece) → UnderOwn id_of own Q id x ps → IsReadBack ps (same x) (IfKnown known m)
  kind_back x ps p S T n r u takes room (Refused b q) = absurd (true_false (knows x p.0 p.1) q.0)
  kind_back x ps p S T n r u takes room (Passed q) = A.read_back x ps (to x ps p.0 p.2) S T n r u takes room q.1

  kind_taken : (x : X) (S : Stream) (n : ℕ) (u : Standing (Option Stream)) → IfKnown known m false (Going (Some S) n) (Ok x) u → TakenAs (UnderOwn id_of own Q id) x S n u
  kind_taken x S n u (Refused b q) = let e = q.1 in absurd (cc)
  kind_taken x S n u (Passed q) =
      let a = A.read x S n u q.1 in
      record { taken = a.taken; has = from x a.taken q.0 a.has; rest = a.rest; takes = a.takes; stands = a.stands }

  pub kind_symmetric : IsSymmetric (UnderOwn id_of own Q id) same writes (IfKnown known m)
  kind_symmetric = record {
    one = λ x ps qs p q. A.one x ps qs (to x ps p.0 p.2) (to x qs q.0 q.2);
    written = λ x ps p. A.written x ps (to x ps p.0 p.2);
    read_back = kind_back;
    read = kind_taken;
  }

-- the value of one id
pub one_symmetric : {V X : Type 0} {P : V → List Piece → Type 0} {same : V → V → Type 0} {writes : V → Meaning Output (Unit {0})} {m : Meaning (Option Stream) V}
    (made : V → X) (value_of : X → V) (back : (v : V) → value_of (made v) ≡ v) (only id : ℕ) → IsSymmetric P same writes m
    → IsSymmetric (UnderOwn (λ _. only) (λ _. true) (λ x. P (value_of x)) id) (λ x y. same (value_of x) (value_of y)) (λ x. writes (value_of x)) (IfKnown (nat_eq id only) (Mapped made m))
one_symmetric {P} {same} {writes} {m} made value_of back only id A =
    kind_symmetric id (nat_eq id only) (λ _. only) (λ _. true) (λ x. P (value_of x)) (mapped_symmetric made value_of P writes m same back A)
    (λ x e own. eq-eqb id only e) (λ x ps e p. p) (λ x ps e p. (eqb-true id only e, refl, p))

-- the id of one kind is known
pub one_knows : (only : ℕ) → nat_eq only only ≡ true
one_knows only = eq-eqb only only refl

-- ---- a value that keeps its id
module _ {V X : Type 0} {P : V → List Piece → Type 0} {same : V → V → Type 0} {writes : V → Meaning Output (Unit {0})} {m : Meaning (Option Stream) V}
    (made : ℕ → V → X) (id_of : X → ℕ) (value_of : X → V) (is_id : (i : ℕ) (v : V) → id_of (made i v) ≡ i) (is_value : (i : ℕ) (v : V) → value_of (made i v) ≡ v)
    (id : ℕ) (A : IsSymmetric P same writes m) where
  abbrev Keeps : X → List Piece → Type 0
  Keeps x ps = (id ≡ id_of x) × P (value_of x) ps

  abbrev SameKept : X → X → Type 0
  SameKept x y = (id_of x ≡ id_of y) × same (value_of x) (value_of y)

  kept_back : (x : X) (ps : List Piece) → Keeps x ps → IsReadBack ps (SameKept x) (Mapped (made id) m)
  kept_back x ps p S T n r u takes room =
      mapped_must (made id) m (Going (Some S) n) (same (value_of x)) (SameKept x) T (n + breadth ps)
      (λ v h. (sym p.0 ∙ sym (is_id id v), subst (same (value_of x)) (sym (is_value id v)) h)) (λ r u. A.read_back (value_of x) ps p.1 S T n r u takes room) r u

  kept_taken : (x : X) (S : Stream) (n : ℕ) (u : Standing (Option Stream)) → Mapped (made id) m false (Going (Some S) n) (Ok x) u → TakenAs Keeps x S n u
  kept_taken x S n u (Refusal e p is) = absurd (cc)
  kept_taken x S n u (Value v p is) =
      let a = A.read v S n u p in
      let seen : x ≡ made id v = ok_is x (made id v) is in
      record {
        taken = a.taken;
        has = subst (λ y. Keeps y a.taken) (sym seen) (sym (is_id id v), subst (λ w. P w a.taken) (sym (is_value id v)) a.has);
        rest = a.rest;
        takes = a.takes;
        stands = a.stands;
      }

  pub kept_symmetric : IsSymmetric Keeps SameKept (λ x. writes (value_of x)) (Mapped (made id) m)
  kept_symmetric = record { one = λ x ps qs p q. A.one (value_of x) ps qs p.1 q.1; written = λ x ps p. A.written (value_of x) ps p.1; read_back = kept_back; read = kept_taken }

-- a value under the ids of a range, which keeps its id
pub range_symmetric : {V X : Type 0} {P : V → List Piece → Type 0} {same : V → V → Type 0} {writes : V → Meaning Output (Unit {0})} {m : Meaning (Option Stream) V}
    (made : ℕ → V → X) (id_of : X → ℕ) (value_of : X → V) (is_id : (i : ℕ) (v : V) → id_of (made i v) ≡ i) (is_value : (i : ℕ) (v : V) → value_of (made i v) ≡ v)
    (low high id : ℕ) → IsSymmetric P same writes m
    → IsSymmetric (UnderOwn id_of (λ x. in_range low high (id_of x)) (λ x. P (value_of x)) id) (λ x y. (id_of x ≡ id_of y) × same (value_of x) (value_of y)) (λ x. writes (value_of x))
    (IfKnown (in_range low high id) (Mapped (made id) m))
range_symmetric {P} made id_of value_of is_id is_value low high id A =
    kind_symmetric id (in_range low high id) id_of (λ x. in_range low high (id_of x)) (λ x. P (value_of x)) (kept_symmetric made id_of value_of is_id is_value id A)
    (λ x e own. ap (in_range low high) e ∙ own) (λ x ps e q. (e, q)) (λ x ps known p. (p.0, ap (in_range low high) (sym p.0) ∙ known, p.1))

-- ---- one of two kinds
module _ {V W : Type 0} {P : V → List Piece → Type 0} {Q : W → List Piece → Type 0} {same_this : V → V → Type 0} {same_other : W → W → Type 0}
    {write_this : V → Meaning Output (Unit {0})} {write_other : W → Meaning Output (Unit {0})} {m : Meaning (Option Stream) V} {k : Meaning (Option Stream) W}
    (known : ℕ → Bool) (id_this : V → ℕ) (id_other : W → ℕ) (own_this : V → Bool) (own_other : W → Bool) (id : ℕ)
    (knows : (v : V) → own_this v ≡ true → known (id_this v) ≡ true)
    (A : IsSymmetric (UnderOwn id_this own_this P id) same_this write_this m) (B : IsSymmetric (UnderOwn id_other own_other Q id) same_other write_other k) where
  abbrev Under : Either V W → List Piece → Type 0
  Under = UnderOwn (id_of_either id_this id_other) (is_own known own_this own_other id_other) (OfEither P Q) id

  -- what the second kind has under an id
  other_has : (w : W) (ps : List Piece) → Under (Other w) ps → UnderOwn id_other own_other Q id w ps
  other_has w ps p = (p.0, (both_true (own_other w) (not (known (id_other w))) p.1).0, p.2)

  not_known : (w : W) (ps : List Piece) → Under (Other w) ps → known id ≡ false
  not_known w ps p = ap known p.0 ∙ not_true (known (id_other w)) (both_true (own_other w) (not (known (id_other w))) p.1).1

  is_known : (v : V) (ps : List Piece) → Under (This v) ps → known id ≡ true
  is_known v ps p = ap known p.0 ∙ knows v p.1

  either_one : (x : Either V W) (ps qs : List Piece) → Under x ps → Under x qs → qs ≡ ps
  either_one (This v) ps qs p q = A.one v ps qs p q
  either_one (Other w) ps qs p q = B.one w ps qs (other_has w ps p) (other_has w qs q)

  either_written : (x : Either V W) (ps : List Piece) → Under x ps → IsWrittenAs ps (WritesEither write_this write_other x)
  either_written (This v) ps p = A.written v ps p
  either_written (Other w) ps p = B.written w ps (other_has w ps p)

  either_back : (x : Either V W) (ps : List Piece) → Under x ps → IsReadBack ps (SameEither same_this same_other x) (ReadsEither (known id) m k)
  either_back (This v) ps p S T n r u takes room (inl q) =
      mapped_must This m (Going (Some S) n) (same_this v) (SameEither same_this same_other (This v)) T (n + breadth ps) (λ w h. h) (λ r u. A.read_back v ps p S T n r u takes room) r u q.1
  either_back (This v) ps p S T n r u takes room (inr q) = absurd (true_false (is_known v ps p) q.0)
  either_back (Other w) ps p S T n r u takes room (inl q) = absurd (true_false q.0 (not_known w ps p))
  either_back (Other w) ps p S T n r u takes room (inr q) =
      mapped_must Other k (Going (Some S) n) (same_other w) (SameEither same_this same_other (Other w)) T (n + breadth ps) (λ v h. h)
      (λ r u. B.read_back w ps (other_has w ps p) S T n r u takes room) r u q.1

  either_taken : (x : Either V W) (S : Stream) (n : ℕ) (u : Standing (Option Stream)) → ReadsEither (known id) m k false (Going (Some S) n) (Ok x) u → TakenAs Under x S n u
  either_taken x S n u (inl (e, Value v p is)) =
      let a = A.read v S n u p in
      record { taken = a.taken; has = subst (λ y. Under y a.taken) (sym (ok_is x (This v) is)) a.has; rest = a.rest; takes = a.takes; stands = a.stands }
  either_taken x S n u (inl (e, Refusal v p is)) = absurd (cc)
  either_taken x S n u (inr (e, Value w p is)) =
      let a = B.read w S n u p in
      let h = a.has in
      let unknown : known (id_other w) ≡ false = ap known (sym h.0) ∙ e in
      let has : Under (Other w) a.taken = (h.0, and_true (own_other w) (not (known (id_other w))) h.1 (not_false (known (id_other w)) unknown), h.2) in
      record { taken = a.taken; has = subst (λ y. Under y a.taken) (sym (ok_is x (Other w) is)) has; rest = a.rest; takes = a.takes; stands = a.stands }
  either_taken x S n u (inr (e, Refusal v p is)) = absurd (cc)

  pub either_symmetric : IsSymmetric Under (SameEither same_this same_other) (WritesEither write_this write_other) (ReadsEither (known id) m k)
  either_symmetric = record { one = either_one; written = either_written; read_back = either_back; read = either_taken }

-- the first kind knows the ids that choose it, and so does one of two kinds
pub either_knows : {V W : Type 0} (known_this known_other : ℕ → Bool) (id_this : V → ℕ) (id_other : W → ℕ) (own_this : V → Bool) (own_other : W → Bool)
    → ((v : V) → own_this v ≡ true → known_this (id_this v) ≡ true) → ((w : W) → own_other w ≡ true → known_other (id_other w) ≡ true)
    → (x : Either V W) → is_own known_this own_this own_other id_other x ≡ true
    → Rattle.std.proofs.Common.◌||◌ (known_this (id_of_either id_this id_other x)) (known_other (id_of_either id_this id_other x)) ≡ true
either_knows known_this known_other id_this id_other own_this own_other f g (This v) e = or_first (known_this (id_this v)) (known_other (id_this v)) (f v e)
  where
    or_first : (a b : Bool) → a ≡ true → Rattle.std.proofs.Common.◌||◌ a b ≡ true
    or_first true b e = refl
    or_first false b e = absurd (cc)
either_knows known_this known_other id_this id_other own_this own_other f g (Other w) e =
    or_second (known_this (id_other w)) (known_other (id_other w)) (g w (both_true (own_other w) (not (known_this (id_other w))) e).0)
  where
    or_second : (a b : Bool) → b ≡ true → Rattle.std.proofs.Common.◌||◌ a b ≡ true
    or_second true b e = refl
    or_second false b e = e

-- ---- an id and what it chooses
module _ {I V X : Type 0} {P : I → List Piece → Type 0} {same_id : I → I → Type 0} {write_id : I → Meaning Output (Unit {0})} {m : Meaning (Option Stream) I}
    (made : V → X) (kind : X → V) (is_kind : (v : V) → kind (made v) ≡ v)
    (number_of : I → ℕ) (part_of : ℕ → I) (round : (n : ℕ) → number_of (part_of n) ≡ n) (again : (i : I) → part_of (number_of i) ≡ i) (alike : (i j : I) → same_id i j → i ≡ j)
    (id_of : V → ℕ) (own : V → Bool) (Q : V → List Piece → Type 0) {same : V → V → Type 0} {writes : V → Meaning Output (Unit {0})} {reads : ℕ → Meaning (Option Stream) V}
    (A : IsSymmetric P same_id write_id m) (B : (id : ℕ) → IsSymmetric (UnderOwn id_of own Q id) same writes (reads id)) where
  abbrev first : X → I
  first x = part_of (id_of (kind x))

  abbrev Rest : X → List Piece → Type 0
  Rest x ps = (own (kind x) ≡ true) × Q (kind x) ps

  rest_symmetric : (i : I) → IsSymmetric (λ x ps. (first x ≡ i) × Rest x ps) (λ x y. same (kind x) (kind y)) (λ x. writes (kind x)) (Mapped made (reads (number_of i)))
  rest_symmetric i =
      alike_pieces (λ x ps p. (ap number_of (sym p.0) ∙ round (id_of (kind x)), p.1.0, p.1.1)) (λ x ps p. (ap part_of (sym p.0) ∙ again i, (p.1, p.2)))
      (mapped_symmetric made kind (UnderOwn id_of own Q (number_of i)) writes (reads (number_of i)) same is_kind (B (number_of i)))

  unchecked_symmetric : IsSymmetric (λ x. InTurn (P (first x)) (Rest x)) (λ x y. same (kind x) (kind y)) (λ x. Both (write_id (first x)) (writes (kind x))) (ReadsEnum made number_of m reads)
  unchecked_symmetric =
      chosen_symmetric first P same_id write_id m alike A Rest (λ x y. same (kind x) (kind y)) (λ x. writes (kind x)) (λ i. Mapped made (reads (number_of i))) rest_symmetric

  abbrev Writes : X → Meaning Output (Unit {0})
  Writes x = WritesEnum (λ n. write_id (part_of n)) id_of own writes (kind x)

  enum_written : (x : X) (ps : List Piece) → InTurn (P (first x)) (Rest x) ps → IsWrittenAs ps (Writes x)
  enum_written x ps (a, c, p, q, e) b s r u (Refused f d) = absurd (true_false q.0 d.0)
  enum_written x ps p b s r u (Passed w) = unchecked_symmetric.written x ps p b s r u w.1

  pub enum_symmetric : IsSymmetric (λ x. OfEnum (λ n. P (part_of n)) id_of own Q (kind x)) (λ x y. same (kind x) (kind y)) Writes (ReadsEnum made number_of m reads)
  enum_symmetric = record { one = unchecked_symmetric.one; written = enum_written; read_back = unchecked_symmetric.read_back; read = unchecked_symmetric.read }
