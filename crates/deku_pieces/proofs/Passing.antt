-- A symmetric part that passes a check is symmetric.
use Rattle.std.proofs.Common.{◌≡◌, ℕ, ◌+◌, Bool, true, false, List, Option, Some, Result, Ok, Err, refl, sym, ◌∙◌, subst}
use Rattle.deku_bits.specs.Streams.{Stream}
use Rattle.deku_bits.specs.Pieces.{Piece}
use Rattle.deku_bits.specs.Standings.{Standing, Going, Output}
use Rattle.std.specs.Prelude.{⊤}
use Rattle.std.specs.Borrow.{Bor}
use Rattle.deku_bits.specs.declared.error.DekuError.{DekuError}
use Rattle.deku_bits.specs.declared.error.DekuError.TheVariants.{Assertion}
use Rattle.deku_bits.specs.Devices.{Health}
use Rattle.deku_bits.specs.Outcomes.{Meaning, Outcome, Quiet, Refuses}
use Rattle.deku_bits.proofs.Handing.{weaker, no_fewer_same}
use Rattle.deku_num.specs.NumberCalls.{Checked, Refused, Passed}
use Rattle.deku.specs.Composing.{Answer, Second, First}
use Rattle.deku_pieces.specs.declared.assertion.Assert.{Assert}
use Rattle.deku_pieces.specs.Symmetric.{breadth, IsWrittenAs, IsReadBack, TakenAs, IsSymmetric}
use Rattle.deku_pieces.specs.declared.magic.Magic.{Magic}
use Rattle.deku_pieces.specs.Asserting.{OfPassing, IfPasses, ReadsAsserted, WritesAsserted, ReadsMagic}
use Rattle.deku_pieces.proofs.Answering.{answer_is, answer_must, then_must, Must}

-- ---- calls
-- what does not pass is refused
pub not_passing : {A V W : Type 0} (passes : V → Bool) {text : List ℕ} (v : V) (m : Meaning A W) {s : Standing A} {f : Health} (words : Bor (List ℕ))
    → words.now ≡ text → passes v ≡ false → Outcome (IfPasses passes text v m) s f (Err (Assertion words)) s f
not_passing passes v m {f} words e d = Quiet (Refused refl (d, (words, e, refl, refl))) (no_fewer_same f)

-- what passes is gone on with
pub passing : {A V W : Type 0} (passes : V → Bool) (text : List ℕ) (v : V) {m : Meaning A W} {s : Standing A} {f : Health} {r : Result W DekuError} {u : Standing A} {z : Health}
    → passes v ≡ true → Outcome m s f r u z → Outcome (IfPasses passes text v m) s f r u z
passing passes text v e o = weaker _ _ _ _ _ _ _ (λ b p. Passed (e, p)) o

-- ---- the law
module _ {V C : Type 0} {P : V → List Piece → Type 0} {same : V → V → Type 0} {writes : V → Meaning Output (Unit {0})} {m : Meaning (Option Stream) V}
    (passes : V → Bool) (text : List ℕ) (alike : (v w : V) → same v w → passes v ≡ passes w) (A : IsSymmetric P same writes m) where
  abbrev Same : Assert V C → Assert V C → Type 0
  Same v w = same v.part w.part

  passing_written : (v : Assert V C) (ps : List Piece) → OfPassing passes P v ps → IsWrittenAs ps (WritesAsserted passes text writes v)
  passing_written v ps p b s r u (Refused f q) = let e = p.0 in let d = q.0 in absurd (cc)
  passing_written v ps p b s r u (Passed q) = A.written v.part ps p.1 b s r u q.1

  passes_must : (v : Assert V C) (w : V) (T : Stream) (n : ℕ) → passes v.part ≡ true → same v.part w
      → Must (IfPasses passes text w (Answer (record { part = w; check = record {} }))) (Going (Some T) n) (Same v) T n
  passes_must v w T n h f r u (Refused b q) = let e = alike v.part w f in let d = q.0 in absurd (cc)
  passes_must v w T n h f r u (Passed q) = answer_must _ (Same v) T n f r u q.1

  passing_back : (v : Assert V C) (ps : List Piece) → OfPassing passes P v ps → IsReadBack ps (Same v) (ReadsAsserted passes text m)
  passing_back v ps p S T n r u takes room =
      then_must m _ (Going (Some S) n) (same v.part) T (n + breadth ps) (Same v) T (n + breadth ps)
      (λ r u. A.read_back v.part ps p.1 S T n r u takes room) (λ w f. passes_must v w T (n + breadth ps) p.0 f) r u

  passing_read : (v : Assert V C) (S : Stream) (n : ℕ) (u : Standing (Option Stream)) → ReadsAsserted passes text m false (Going (Some S) n) (Ok v) u → TakenAs (OfPassing passes P) v S n u
  passing_read v S n u (First e p is) = absurd (cc)
  passing_read v S n u (Second w t p (Refused b q)) = let e = q.1.2 in absurd (cc)
  passing_read v S n u (Second w t p (Passed q)) =
      let d = answer_is _ v t u q.1 in
      let a = A.read w S n t p in
      record { taken = a.taken; has = subst (λ x. OfPassing passes P x a.taken) (sym d.0) (q.0, a.has); rest = a.rest; takes = a.takes; stands = d.1 ∙ a.stands }

  pub asserted_symmetric : IsSymmetric (OfPassing passes P) Same (WritesAsserted passes text writes) (ReadsAsserted passes text m)
  asserted_symmetric = record { one = λ v ps qs p q. A.one v.part ps qs p.1 q.1; written = passing_written; read_back = passing_back; read = passing_read }

-- ---- one value alone
-- another value is refused
pub not_value : {A V C : Type 0} (value : V) {text : List ℕ} (v : V) (m : Meaning A C) {s : Standing A} {f : Health} (words : Bor (List ℕ))
    → words.now ≡ text → (v ≡ value → ⊥) → Outcome (Checked (λ s r u. (v ≡ value → ⊥) × Refuses Assertion text s r u) (λ b s r u. (v ≡ value) × m b s r u)) s f (Err (Assertion words)) s f
not_value value v m {f} words e d = Quiet (Refused refl (d, (words, e, refl, refl))) (no_fewer_same f)

module _ {V C : Type 0} {P : V → List Piece → Type 0} {same : V → V → Type 0} {writes : V → Meaning Output (Unit {0})} {m : Meaning (Option Stream) V}
    (value : V) (text : List ℕ) (alike : (v : V) → same value v → v ≡ value) (A : IsSymmetric P same writes m) where
  abbrev Made : Meaning (Option Stream) (Magic V C)
  Made = ReadsMagic value text m

  value_must : (x : Magic V C) (w : V) (T : Stream) (n : ℕ) → same value w
      → Must (Checked (λ s r u. (w ≡ value → ⊥) × Refuses Assertion text s r u) (λ b s r u. (w ≡ value) × Answer x b s r u)) (Going (Some T) n) (λ _. ⊤) T n
  value_must x w T n f r u (Refused b q) = absurd (q.0 (alike w f))
  value_must x w T n f r u (Passed q) = answer_must x (λ _. ⊤) T n tt r u q.1

  fixed_back : (v : Magic V C) (ps : List Piece) → P value ps → IsReadBack ps (λ _. ⊤) Made
  fixed_back v ps p S T n r u takes room =
      then_must m _ (Going (Some S) n) (same value) T (n + breadth ps) (λ _. ⊤) T (n + breadth ps)
      (λ r u. A.read_back value ps p S T n r u takes room) (λ w f. value_must _ w T (n + breadth ps) f) r u

  fixed_read : (v : Magic V C) (S : Stream) (n : ℕ) (u : Standing (Option Stream)) → Made false (Going (Some S) n) (Ok v) u → TakenAs (λ _. P value) v S n u
  fixed_read v S n u (First e p is) = absurd (cc)
  fixed_read v S n u (Second w t p (Refused b q)) = let e = q.1.2 in absurd (cc)
  fixed_read v S n u (Second w t p (Passed q)) =
      let d = answer_is _ v t u q.1 in
      let a = A.read w S n t p in
      record { taken = a.taken; has = subst (λ x. P x a.taken) q.0 a.has; rest = a.rest; takes = a.takes; stands = d.1 ∙ a.stands }

  pub magic_symmetric : IsSymmetric (λ (v : Magic V C). P value) (λ v w. ⊤) (λ v. writes value) Made
  magic_symmetric = record { one = λ v. A.one value; written = λ v. A.written value; read_back = fixed_back; read = fixed_read }
