-- A symmetric head, and after it symmetric content of as many bits as it says, are symmetric.
use Rattle.std.proofs.Common.{◌≡◌, ℕ, ◌+◌, ◌<◌, Bool, true, false, List, [], ◌∷◌, length, Option, None, Some, Result, Ok, Err, refl, ap, sym, ◌∙◌, subst, inl, inr, arith}
use Rattle.std.specs.Borrow.{Bor}
use Rattle.deku_bits.specs.declared.error.DekuError.{DekuError}
use Rattle.deku_bits.specs.declared.error.DekuError.TheVariants.{Assertion, Parse}
use Rattle.deku_bits.specs.declared.ctx.Order.{Order}
use Rattle.deku_bits.specs.Devices.{Health}
use Rattle.deku_bits.specs.Bits.{shown}
use Rattle.deku_bits.specs.Streams.{Stream}
use Rattle.deku_bits.specs.Writers.{Pending, pending_bits, append}
use Rattle.deku_bits.specs.Pieces.{Piece}
use Rattle.deku_bits.specs.Standings.{Standing, Going, Stopped, Output, count_of, reader_state, writer_state}
use Rattle.deku_bits.specs.Outcomes.{Meaning, Outcome, Quiet, Broken}
use Rattle.deku_bits.specs.WriterCalls.{WritesBits, pending_of}
use Rattle.deku_bits.specs.Devices.{KnownSink}
use Rattle.deku_bits.proofs.Handing.{no_fewer_same}
use Rattle.deku_bits.proofs.Appends.{count_law}
use Rattle.deku_bits.proofs.Shown.{length-shown}
use Rattle.deku_num.specs.NumberCalls.{Refused, Passed}
use Rattle.deku.specs.Composing.{Answered, Second, First, Both}
use Rattle.deku.specs.Extents.{WritesPieces}
use Rattle.deku_pieces.specs.Symmetric.{breadth, IsWrittenAs, IsReadBack, TakenAs, IsSymmetric}
use Rattle.deku_pieces.specs.Sizes.{OfSized, OfSizes, given_bits, FewPending, IfSized, IfRead, ReadsExactly, ReadsSizes, IfGiven, WritesExactly, WritesSizes}
use Rattle.deku_pieces.proofs.Answering.{answer_is, answer_must, then_must, Must}
use Rattle.deku_pieces.proofs.Heads.{indexed_symmetric, some_is}

-- ---- calls
-- the count that was wanted
pub as_read : {V : Type 0} {end : ℕ} {v : V} {s : Standing (Option Stream)} {f : Health} → count_of s ≡ end → Outcome (IfRead end v) s f (Ok v) s f
as_read {f} e = Quiet (Passed (e, Answered)) (no_fewer_same f)

-- another count
pub not_as_read : {V : Type 0} {end : ℕ} (v : V) {s : Standing (Option Stream)} {f : Health} (words : Bor (List ℕ))
    → words.now ≡ Rattle.std.specs.Prelude.codes "content out of step with its size" → (count_of s ≡ end → ⊥) → Outcome (IfRead end v) s f (Err (Assertion words)) s f
not_as_read v {f} words e d = Quiet (Refused refl (d, (words, e, refl, refl))) (no_fewer_same f)

-- as many bits as were wanted
pub as_given : (from : Standing Output) {t : Standing Output} {end : ℕ} {f : Health} → given_bits t ≡ end → Outcome (IfGiven from end) t f (Ok tt) t f
as_given from {f} e = Quiet (Passed (e, Answered)) (no_fewer_same f)

-- more or fewer
pub not_as_given : (from : Standing Output) {t : Standing Output} {end : ℕ} {f : Health} (words : Bor (List ℕ))
    → words.now ≡ Rattle.std.specs.Prelude.codes "content out of step with its size" → FewPending from → (given_bits t ≡ end → ⊥) → Outcome (IfGiven from end) t f (Err (Assertion words)) t f
not_as_given from words e few d = Quiet (Refused refl (few, d, (words, e, refl, refl))) (no_fewer_same _)

-- what is said of the state that there is
pub here : {A V : Type 0} (M : Standing A → Meaning A V) {s : Standing A} {f : Health} {r : Result V DekuError} {u : Standing A} {g : Health}
    → Outcome (M s) s f r u g → Outcome (λ b s r u. M s b s r u) s f r u g
here M (Quiet p q) = Quiet p q
here M (Broken a p q) = Broken a p q

-- the bits are counted alike, whatever is known of the bytes
pub same_count : (now : Option (List ℕ)) (s : Standing (List Bool)) → count_of (reader_state now s) ≡ count_of s
same_count now (Going w c) = refl
same_count now (Stopped w f c) = refl

pub same_given : (known : KnownSink) (s : Standing Pending) → given_bits (writer_state known s) ≡ count_of s + length (pending_bits (pending_of s))
same_given known (Going p c) = refl
same_given known (Stopped p f c) = omega arith

pub few_pending : (known : KnownSink) (s : Standing Pending) → length (pending_bits (pending_of s)) < 8 → FewPending (writer_state known s)
few_pending known (Going p c) l = l
few_pending known (Stopped p f c) l = omega arith

-- a head with a size
pub sized : {A V : Type 0} (refusal : Bor (List ℕ) → DekuError) {size : Option ℕ} (n : ℕ) (k : ℕ → Meaning A V) {s : Standing A} {f : Health} {r : Result V DekuError} {u : Standing A} {g : Health}
    → size ≡ Some n → Outcome (k n) s f r u g → Outcome (IfSized refusal size k) s f r u g
sized refusal n k {s} {f} {r} {u} {g} e o = subst (λ x. Outcome (IfSized refusal x k) s f r u g) (sym e) o

-- a head without one
pub unsized : {A V : Type 0} (refusal : Bor (List ℕ) → DekuError) {size : Option ℕ} (k : ℕ → Meaning A V) {s : Standing A} {f : Health} (words : Bor (List ℕ))
    → words.now ≡ Rattle.std.specs.Prelude.codes "head without a size" → size ≡ None → Outcome (IfSized refusal size k) s f (Err (refusal words)) s f
unsized refusal k {s} {f} words e d = subst (λ x. Outcome (IfSized refusal x k) s f (Err (refusal words)) s f) (sym d) (Quiet (refl, (words, e, refl, refl)) (no_fewer_same f))

-- ---- content of so many bits, read
module _ {V : Type 0} (P : V → List Piece → Type 0) (same : V → V → Type 0) (writes : V → Meaning Output (Unit {0})) (m : Meaning (Option Stream) V) (A : IsSymmetric P same writes m) (n : ℕ) where
  abbrev Exact : V → List Piece → Type 0
  Exact v ps = (n ≡ breadth ps) × P v ps

  exact_must : (v w : V) (T : Stream) (c end : ℕ) → c ≡ end → same v w → Must (IfRead end w) (Going (Some T) c) (same v) T c
  exact_must v w T c end e f r u (Refused b q) = absurd (q.0 e)
  exact_must v w T c end e f r u (Passed q) = answer_must w (same v) T c f r u q.1

  exactly_back : (v : V) (ps : List Piece) → Exact v ps → IsReadBack ps (same v) (ReadsExactly n m)
  exactly_back v ps p S T c r u takes room =
      then_must m (IfRead (c + n)) (Going (Some S) c) (same v) T (c + breadth ps) (same v) T (c + breadth ps)
      (λ r u. A.read_back v ps p.1 S T c r u takes room) (λ w f. exact_must v w T (c + breadth ps) (c + n) (ap (λ k. c + k) (sym p.0)) f) r u

  exactly_read : (v : V) (S : Stream) (c : ℕ) (u : Standing (Option Stream)) → ReadsExactly n m false (Going (Some S) c) (Ok v) u → TakenAs Exact v S c u
  exactly_read v S c u (First e p is) = absurd (cc)
  exactly_read v S c u (Second w t p (Refused b q)) = let e = q.1.2 in absurd (cc)
  exactly_read v S c u (Second w t p (Passed q)) =
      let d = answer_is w v t u q.1 in
      let a = A.read w S c t p in
      let wide : c + breadth a.taken ≡ c + n = sym (ap count_of a.stands) ∙ q.0 in
      record { taken = a.taken; has = (omega (arith, wide), subst (λ x. P x a.taken) (sym d.0) a.has); rest = a.rest; takes = a.takes; stands = d.1 ∙ a.stands }

-- ---- bits that are written
-- one piece
bits_given : (o : Order) (bits : List Bool) (s t : Standing Output) → FewPending s → WritesBits o bits false s (Ok tt) t → (given_bits t ≡ given_bits s + length bits) × FewPending t
bits_given o bits (Going out c) t few (inl p) = let e = p.1.2 in absurd (cc)
bits_given o bits (Going out c) t few (inr (room, inl (after, took, is, stands))) =
    let law = count_law.0 o bits out.pending few in
    let pending : length (pending_bits after.pending) ≡ length (pending_bits (append o bits out.pending).pending) = ap (λ p. length (pending_bits p)) took.pending in
    rw stands (omega (arith, law.0, pending), omega (arith, law.1, pending))
bits_given o bits (Going out c) t few (inr (room, inr (kind, some, lacks, is, after, took, stands))) = absurd (cc)
bits_given o bits (Stopped out fault c) t few p = let e = p.0 in absurd (cc)

-- pieces, one after the other
pieces_given : (ps : List Piece) (s t : Standing Output) → FewPending s → WritesPieces ps false s (Ok tt) t → given_bits t ≡ given_bits s + breadth ps
pieces_given [] s t few Answered = omega arith
pieces_given (p ∷ ps) s t few (First e q is) = absurd (cc)
pieces_given (p ∷ ps) s t few (Second v w m k) =
    let one = bits_given p.order (shown p.order p.bits) s w few m in
    let rest = pieces_given ps w t one.1 k in
    omega (arith, one.0, rest, length-shown p.order p.bits)

-- content that has exactly so many bits
pub exactly_written : (ps : List Piece) (n : ℕ) (m : Meaning Output (Unit {0})) → n ≡ breadth ps → IsWrittenAs ps m → IsWrittenAs ps (WritesExactly n m)
exactly_written ps n m e f b s r u (First x p is) = subst (λ y. WritesPieces ps b s y u) (sym is) (f b s (Err x) u p)
exactly_written ps n m e f b s r u (Second v t p (Refused g q)) = absurd (q.1 (pieces_given ps s t q.0 (f false s (Ok v) t p) ∙ ap (λ k. given_bits s + k) (sym e)))
exactly_written ps n m e f false s r u (Second v t p (Passed (d, Answered))) = f false s (Ok v) t p
exactly_written ps n m e f true s r u (Second v t p (Passed (d, a))) = elim a [ ]

-- ---- content of the size that a head says
module _ {V : Type 0} {P : V → List Piece → Type 0} {same : V → V → Type 0} {writes : V → Meaning Output (Unit {0})} {m : Meaning (Option Stream) V} (A : IsSymmetric P same writes m) where
  abbrev Reads : Option ℕ → Meaning (Option Stream) V
  Reads size = IfSized Parse size (λ n. ReadsExactly n m)

  abbrev Writes : Option ℕ → V → Meaning Output (Unit {0})
  Writes size v = IfSized Assertion size (λ n. WritesExactly n (writes v))

  sized_written : (size : Option ℕ) (v : V) (ps : List Piece) → OfSized size P v ps → IsWrittenAs ps (Writes size v)
  sized_written None v ps p = let e = p.0 in absurd (cc)
  sized_written (Some n) v ps p = exactly_written ps n (writes v) (some_is n (breadth ps) p.0) (A.written v ps p.1)

  sized_back : (size : Option ℕ) (v : V) (ps : List Piece) → OfSized size P v ps → IsReadBack ps (same v) (Reads size)
  sized_back None v ps p = let e = p.0 in absurd (cc)
  sized_back (Some n) v ps p = exactly_back P same writes m A n v ps (some_is n (breadth ps) p.0, p.1)

  sized_read : (size : Option ℕ) (v : V) (S : Stream) (c : ℕ) (u : Standing (Option Stream)) → Reads size false (Going (Some S) c) (Ok v) u → TakenAs (OfSized size P) v S c u
  sized_read None v S c u (b, refused) = let e = refused.2 in absurd (cc)
  sized_read (Some n) v S c u q =
      let a = exactly_read P same writes m A n v S c u q in
      let h = a.has in
      record { taken = a.taken; has = (ap (λ k. Some k) h.0, h.1); rest = a.rest; takes = a.takes; stands = a.stands }

  sized_symmetric : (size : Option ℕ) → IsSymmetric (OfSized size P) same (Writes size) (Reads size)
  sized_symmetric size = record { one = λ v ps qs p q. A.one v ps qs p.1 q.1; written = sized_written size; read_back = sized_back size; read = sized_read size }

-- a size that was asked for before the head is asked for after it
pub later : (size : Option ℕ) (n : ℕ) (f : Meaning Output (Unit {0})) (g : ℕ → Meaning Output (Unit {0})) (b : Bool) (s : Standing Output) (r : Result (Unit {0}) DekuError) (u : Standing Output)
    → size ≡ Some n → IfSized Assertion size (λ i. Both f (g i)) b s r u → Both f (IfSized Assertion size g) b s r u
later None n f g b s r u e w = absurd (cc)
later (Some i) n f g b s r u e w = w

-- ---- a head and its content
module _ {V W X : Type 0} {P : V → List Piece → Type 0} {Q : W → List Piece → Type 0} {same_head : V → V → Type 0} {same_content : W → W → Type 0}
    {write_head : V → Meaning Output (Unit {0})} {write_content : W → Meaning Output (Unit {0})} {m : Meaning (Option Stream) V} {k : Meaning (Option Stream) W}
    (made : V → W → X) (head : X → V) (content : X → W) (is_head : (v : V) (w : W) → head (made v w) ≡ v) (is_content : (v : V) (w : W) → content (made v w) ≡ w)
    (size_of : V → Option ℕ) (alike : (v w : V) → same_head v w → size_of v ≡ size_of w) (A : IsSymmetric P same_head write_head m) (B : IsSymmetric Q same_content write_content k) where
  abbrev Same : X → X → Type 0
  Same x y = same_head (head x) (head y) × same_content (content x) (content y)

  made_same : (x : X) (v : V) (w : W) → same_head (head x) v → same_content (content x) w → Same x (made v w)
  made_same x v w f g = (subst (same_head (head x)) (sym (is_head v w)) f, subst (same_content (content x)) (sym (is_content v w)) g)

  both_symmetric : IsSymmetric (λ x. OfSizes size_of P Q (head x) (content x)) Same (λ x. Both (write_head (head x)) (IfSized Assertion (size_of (head x)) (λ n. WritesExactly n (write_content (content x))))) (ReadsSizes made size_of m k)
  both_symmetric =
      indexed_symmetric made head content size_of P (λ size. OfSized size Q) same_head same_content Same
      write_head (λ size x. IfSized Assertion size (λ n. WritesExactly n (write_content x))) m (λ size. IfSized Parse size (λ n. ReadsExactly n k)) is_head is_content made_same alike A (sized_symmetric B)

  sizes_written : (x : X) (ps : List Piece) → OfSizes size_of P Q (head x) (content x) ps → IsWrittenAs ps (WritesSizes size_of write_head write_content (head x) (content x))
  sizes_written x ps (a, c, p, q, e) b s r u w =
      both_symmetric.written x ps (a, c, p, q, e) b s r u
      (later (size_of (head x)) (breadth c) (write_head (head x)) (λ n. WritesExactly n (write_content (content x))) b s r u q.0 w)

  pub sizes_symmetric : IsSymmetric (λ x. OfSizes size_of P Q (head x) (content x)) Same (λ x. WritesSizes size_of write_head write_content (head x) (content x)) (ReadsSizes made size_of m k)
  sizes_symmetric = record { one = both_symmetric.one; written = sizes_written; read_back = both_symmetric.read_back; read = both_symmetric.read }
