-- A symmetric head, and after it what is symmetric under what the head says, are symmetric.
use Rattle.std.proofs.Common.{◌≡◌, ℕ, Bool, List, Option, Result, sym, subst}
use Rattle.deku_bits.specs.declared.error.DekuError.{DekuError}
use Rattle.deku_bits.specs.Devices.{Health}
use Rattle.deku_bits.specs.Streams.{Stream}
use Rattle.deku_bits.specs.Pieces.{Piece}
use Rattle.deku_bits.specs.Standings.{Standing, Output}
use Rattle.deku_bits.specs.Outcomes.{Meaning, Outcome}
use Rattle.deku_bits.proofs.Handing.{weaker}
use Rattle.deku_num.specs.NumberCalls.{Refused, Passed}
use Rattle.deku.specs.Composing.{Both}
use Rattle.deku_pieces.specs.Symmetric.{IsWrittenAs, IsSymmetric}
use Rattle.deku_pieces.specs.Pieces.{InTurn}
use Rattle.deku_pieces.specs.Ids.{UnderOwn}
use Rattle.deku_pieces.specs.Following.{ReadsUnderHead, IsOfId, OfChosen, WritesChosenBy}
use Rattle.deku_pieces.proofs.Heads.{indexed_symmetric}

-- ---- under what a head says
module _ {I V W X : Type 0} {P : V → List Piece → Type 0} {Q : I → W → List Piece → Type 0} {same_head : V → V → Type 0} {same_value : W → W → Type 0}
    {write_head : V → Meaning Output (Unit {0})} {write_value : I → W → Meaning Output (Unit {0})} {m : Meaning (Option Stream) V} {k : I → Meaning (Option Stream) W}
    (made : V → W → X) (head : X → V) (value : X → W) (is_head : (v : V) (w : W) → head (made v w) ≡ v) (is_value : (v : V) (w : W) → value (made v w) ≡ w)
    (index : V → I) (alike : (v w : V) → same_head v w → index v ≡ index w) (A : IsSymmetric P same_head write_head m) (B : (i : I) → IsSymmetric (Q i) same_value (write_value i) (k i)) where
  abbrev Same : X → X → Type 0
  Same x y = same_head (head x) (head y) × same_value (value x) (value y)

  made_same : (x : X) (v : V) (w : W) → same_head (head x) v → same_value (value x) w → Same x (made v w)
  made_same x v w f g = (subst (same_head (head x)) (sym (is_head v w)) f, subst (same_value (value x)) (sym (is_value v w)) g)

  pub under_symmetric : IsSymmetric (λ x. InTurn (P (head x)) (Q (index (head x)) (value x))) Same (λ x. Both (write_head (head x)) (write_value (index (head x)) (value x))) (ReadsUnderHead made index m k)
  under_symmetric =
      indexed_symmetric made head value index P Q same_head same_value Same write_head write_value m k is_head is_value made_same alike A B

-- ---- of a kind that a head chooses
module _ {V W X : Type 0} {P : V → List Piece → Type 0} {Q : W → List Piece → Type 0} {same_head : V → V → Type 0} {same_kind : W → W → Type 0}
    {write_head : V → Meaning Output (Unit {0})} {write_kind : W → Meaning Output (Unit {0})} {m : Meaning (Option Stream) V} {k : ℕ → Meaning (Option Stream) W}
    (made : V → W → X) (head : X → V) (kind : X → W) (is_head : (v : V) (w : W) → head (made v w) ≡ v) (is_kind : (v : V) (w : W) → kind (made v w) ≡ w)
    (id_in : V → ℕ) (alike : (v w : V) → same_head v w → id_in v ≡ id_in w) (id_of : W → ℕ) (own : W → Bool)
    (A : IsSymmetric P same_head write_head m) (B : (id : ℕ) → IsSymmetric (UnderOwn id_of own Q id) same_kind write_kind (k id)) where
  unchecked_symmetric : IsSymmetric (λ x. OfChosen id_in id_of own P Q (head x) (kind x)) (λ x y. same_head (head x) (head y) × same_kind (kind x) (kind y))
      (λ x. Both (write_head (head x)) (write_kind (kind x))) (ReadsUnderHead made id_in m k)
  unchecked_symmetric = under_symmetric made head kind is_head is_kind id_in alike A B

  chosen_written : (x : X) (ps : List Piece) → OfChosen id_in id_of own P Q (head x) (kind x) ps → IsWrittenAs ps (WritesChosenBy id_in id_of own write_head write_kind (head x) (kind x))
  chosen_written x ps (a, c, p, q, e) b s r u (Refused f d) = absurd (d.0 (q.0, q.1))
  chosen_written x ps p b s r u (Passed w) = unchecked_symmetric.written x ps p b s r u w.1

  pub chosen_by_symmetric : IsSymmetric (λ x. OfChosen id_in id_of own P Q (head x) (kind x)) (λ x y. same_head (head x) (head y) × same_kind (kind x) (kind y))
      (λ x. WritesChosenBy id_in id_of own write_head write_kind (head x) (kind x)) (ReadsUnderHead made id_in m k)
  chosen_by_symmetric = record { one = unchecked_symmetric.one; written = chosen_written; read_back = unchecked_symmetric.read_back; read = unchecked_symmetric.read }

-- ---- calls
-- a head and a value of its kind are written
pub written_chosen : {V W : Type 0} (id_in : V → ℕ) (id_of : W → ℕ) (own : W → Bool) (write_head : V → Meaning Output (Unit {0})) (write_kind : W → Meaning Output (Unit {0})) (h : V) (k : W)
    {s : Standing Output} {a : Health} {r : Result (Unit {0}) DekuError} {u : Standing Output} {z : Health}
    → IsOfId id_of own (id_in h) k → Outcome (Both (write_head h) (write_kind k)) s a r u z
    → Outcome (WritesChosenBy id_in id_of own write_head write_kind h k) s a r u z
written_chosen id_in id_of own write_head write_kind h k e o = weaker _ _ _ _ _ _ _ (λ b m. Passed (e, m)) o
