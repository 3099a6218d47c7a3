-- A symmetric head, and after it a symmetric item if the head shows one, are symmetric.
use Rattle.std.proofs.Common.{◌≡◌, ℕ, ◌+◌, Bool, true, false, List, [], Option, None, Some, Result, Ok, refl, ap, sym, ◌∙◌, subst, arith}
use Rattle.std.specs.Prelude.{is_some}
use Rattle.deku_bits.specs.Streams.{Stream}
use Rattle.deku_bits.specs.Pieces.{Piece}
use Rattle.deku_bits.specs.Standings.{Standing, Going, Output}
use Rattle.deku_bits.specs.Devices.{Health}
use Rattle.deku_bits.specs.declared.error.DekuError.{DekuError}
use Rattle.deku_bits.specs.Outcomes.{Meaning, Outcome}
use Rattle.deku_bits.proofs.Handing.{weaker}
use Rattle.deku_num.specs.NumberCalls.{Refused, Passed}
use Rattle.deku.specs.Composing.{Answer, Both}
use Rattle.deku.specs.Extents.{WritesPieces}
use Rattle.deku.specs.Shapes.{IfHeld}
use Rattle.deku_pieces.specs.Symmetric.{IsWrittenAs, IsReadBack, TakenAs, IsSymmetric}
use Rattle.deku_pieces.specs.Pieces.{SameHeld}
use Rattle.deku_pieces.specs.Whether.{OfAbsent, OfWhether, OfShown, ReadsWhether, ReadsShown, WritesShown}
use Rattle.deku_pieces.proofs.Answering.{answer_is, answer_must}
use Rattle.deku_pieces.proofs.Turned.{held_symmetric}
use Rattle.deku_pieces.proofs.Heads.{indexed_symmetric}

-- ---- an item that is there, or is not
module _ {V : Type 0} (P : V → List Piece → Type 0) (same : V → V → Type 0) (writes : V → Meaning Output (Unit {0})) (m : Meaning (Option Stream) V) (A : IsSymmetric P same writes m) where
  absent_written : (v : Option V) (ps : List Piece) → OfAbsent v ps → IsWrittenAs ps (IfHeld writes v)
  absent_written None ps p = λ b s r u w. subst (λ x. WritesPieces x b s r u) (sym p.1) w
  absent_written (Some v) ps p = let e = p.0 in absurd (cc)

  none_back : (good : Option V → Type 0) → good None → IsReadBack [] good (Answer None)
  none_back good g S T n r u e room w =
      let count : n ≡ n + 0 = omega (arith) in
      answer_must None good T (n + 0) g r u (subst (λ x. Answer None false x r u) (ap (λ x. Going (Some x) n) e ∙ ap (λ k. Going (Some T) k) count) w)

  absent_back : (v : Option V) (ps : List Piece) → OfAbsent v ps → IsReadBack ps (SameHeld same v) (Answer None)
  absent_back None ps p = subst (λ x. IsReadBack x (SameHeld same None) (Answer None)) (sym p.1) (none_back (SameHeld same None) tt)
  absent_back (Some v) ps p = let e = p.0 in absurd (cc)

  absent_read : (v : Option V) (S : Stream) (n : ℕ) (u : Standing (Option Stream)) → Answer None false (Going (Some S) n) (Ok v) u → TakenAs OfAbsent v S n u
  absent_read v S n u w =
      let d = answer_is None v (Going (Some S) n) u w in
      let count : n ≡ n + 0 = omega (arith) in
      record { taken = []; has = (d.0, refl); rest = S; takes = refl; stands = d.1 ∙ ap (λ k. Going (Some S) k) count }

  absent_symmetric : IsSymmetric OfAbsent (SameHeld same) (IfHeld writes) (Answer None)
  absent_symmetric = record { one = λ v ps qs p q. q.1 ∙ sym p.1; written = absent_written; read_back = absent_back; read = absent_read }

  pub whether_symmetric : (there : Bool) → IsSymmetric (OfWhether there P) (SameHeld same) (IfHeld writes) (ReadsWhether there m)
  whether_symmetric true = held_symmetric P same writes m A
  whether_symmetric false = absent_symmetric

-- An item that has pieces is there if it has to be, and only then.
in_step : {W : Type 0} (Q : W → List Piece → Type 0) (there : Bool) (x : Option W) (ps : List Piece) → OfWhether there Q x ps → is_some x ≡ there
in_step Q true None ps p = absurd p
in_step Q true (Some x) ps p = refl
in_step Q false x ps p = ap is_some p.0

-- ---- a head and its item
module _ {V W X : Type 0} {P : V → List Piece → Type 0} {Q : W → List Piece → Type 0} {same_head : V → V → Type 0} {same_item : W → W → Type 0}
    {write_head : V → Meaning Output (Unit {0})} {write_item : W → Meaning Output (Unit {0})} {m : Meaning (Option Stream) V} {k : Meaning (Option Stream) W}
    (made : V → Option W → X) (head : X → V) (item : X → Option W) (is_head : (v : V) (w : Option W) → head (made v w) ≡ v) (is_item : (v : V) (w : Option W) → item (made v w) ≡ w)
    (shows : V → Bool) (alike : (v w : V) → same_head v w → shows v ≡ shows w) (A : IsSymmetric P same_head write_head m) (B : IsSymmetric Q same_item write_item k) where
  abbrev Same : X → X → Type 0
  Same x y = same_head (head x) (head y) × SameHeld same_item (item x) (item y)

  made_same : (x : X) (v : V) (w : Option W) → same_head (head x) v → SameHeld same_item (item x) w → Same x (made v w)
  made_same x v w f g = (subst (same_head (head x)) (sym (is_head v w)) f, subst (SameHeld same_item (item x)) (sym (is_item v w)) g)

  both_symmetric : IsSymmetric (λ x. OfShown shows P Q (head x) (item x)) Same (λ x. Both (write_head (head x)) (IfHeld write_item (item x))) (ReadsShown made shows m k)
  both_symmetric =
      indexed_symmetric made head item shows P (λ there. OfWhether there Q) same_head (SameHeld same_item) Same
      write_head (λ _. IfHeld write_item) m (λ there. ReadsWhether there k) is_head is_item made_same alike A (whether_symmetric Q same_item write_item k B)

  shown_written : (x : X) (ps : List Piece) → OfShown shows P Q (head x) (item x) ps → IsWrittenAs ps (WritesShown shows write_head write_item (head x) (item x))
  shown_written x ps (a, c, p, q, e) b s r u (Refused f d) = absurd (d.0 (in_step Q (shows (head x)) (item x) c q))
  shown_written x ps p b s r u (Passed w) = both_symmetric.written x ps p b s r u w.1

  pub shown_item_symmetric : IsSymmetric (λ x. OfShown shows P Q (head x) (item x)) Same (λ x. WritesShown shows write_head write_item (head x) (item x)) (ReadsShown made shows m k)
  shown_item_symmetric = record { one = both_symmetric.one; written = shown_written; read_back = both_symmetric.read_back; read = both_symmetric.read }

-- ---- calls
-- a head and an item that are in step are written
pub written_shown : {V W : Type 0} (shows : V → Bool) (write_head : V → Meaning Output (Unit {0})) (write_item : W → Meaning Output (Unit {0})) (h : V) (x : Option W)
    {s : Standing Output} {a : Health} {r : Result (Unit {0}) DekuError} {u : Standing Output} {z : Health}
    → is_some x ≡ shows h → Outcome (Both (write_head h) (IfHeld write_item x)) s a r u z
    → Outcome (WritesShown shows write_head write_item h x) s a r u z
written_shown shows write_head write_item h x e o = weaker _ _ _ _ _ _ _ (λ b m. Passed (e, m)) o
