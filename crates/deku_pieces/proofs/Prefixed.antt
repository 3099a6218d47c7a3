-- Symmetric items after a symmetric count of them are symmetric.
use Rattle.std.proofs.Common.{◌≡◌, ℕ, List, length, Option, ap, sym, ◌∙◌}
use Rattle.std.specs.Global.{Vec}
use Rattle.deku_bits.specs.Streams.{Stream}
use Rattle.deku_bits.specs.Pieces.{Piece}
use Rattle.deku_bits.specs.Standings.{Output}
use Rattle.deku_bits.specs.Outcomes.{Meaning, Mapped}
use Rattle.deku.specs.Composing.{Both, WritesEach}
use Rattle.deku.specs.Limits.{ReadsCount, MappedBy}
use Rattle.deku_pieces.specs.Symmetric.{IsSymmetric}
use Rattle.deku_pieces.specs.Pieces.{InTurn, OfEach, SameEach}
use Rattle.deku_pieces.specs.Leading.{ReadsPrefixed}
use Rattle.deku_pieces.proofs.Chosen.{chosen_symmetric}
use Rattle.deku_pieces.proofs.Heads.{items_symmetric}
use Rattle.deku_pieces.proofs.Ids.{alike_pieces}
use Rattle.deku_pieces.proofs.Turned.{mapped_symmetric}

module _ {I V X : Type 0} {P : I → List Piece → Type 0} {Q : V → List Piece → Type 0} {same_count : I → I → Type 0} {same_item : V → V → Type 0}
    {write_count : I → Meaning Output (Unit {0})} {write_item : V → Meaning Output (Unit {0})} {m : Meaning (Option Stream) I} {k : Meaning (Option Stream) V}
    (made : Vec V → X) (items : X → Vec V) (is_items : (xs : Vec V) → items (made xs) ≡ xs)
    (number_of : I → ℕ) (part_of : ℕ → I) (round : (n : ℕ) → number_of (part_of n) ≡ n) (again : (i : I) → part_of (number_of i) ≡ i) (alike : (i j : I) → same_count i j → i ≡ j)
    (A : IsSymmetric P same_count write_count m) (B : IsSymmetric Q same_item write_item k) where
  abbrev first : X → I
  first x = part_of (length (items x).items)

  abbrev Items : X → List Piece → Type 0
  Items x = OfEach Q (items x).items

  abbrev Same : X → X → Type 0
  Same x y = SameEach same_item (items x).items (items y).items

  -- the items after one count
  rest_symmetric : (i : I) → IsSymmetric (λ x ps. (first x ≡ i) × Items x ps) Same (λ x. WritesEach write_item (items x).items)
      (Mapped made (MappedBy (λ xs v. v.items ≡ xs) (ReadsCount (number_of i) k)))
  rest_symmetric i =
      alike_pieces (λ x ps p. (sym (round (length (items x).items)) ∙ ap number_of p.0, p.1)) (λ x ps p. (ap part_of p.0 ∙ again i, p.1))
      (mapped_symmetric made items (λ (w : Vec V) ps. (length w.items ≡ number_of i) × OfEach Q w.items ps) (λ w. WritesEach write_item w.items) _ (λ w x. SameEach same_item w.items x.items) is_items
      (items_symmetric B (number_of i)))

  pub prefixed_symmetric : IsSymmetric (λ x. InTurn (P (first x)) (Items x)) Same (λ x. Both (write_count (first x)) (WritesEach write_item (items x).items)) (ReadsPrefixed made number_of m k)
  prefixed_symmetric =
      chosen_symmetric first P same_count write_count m alike A Items Same (λ x. WritesEach write_item (items x).items)
      (λ i. Mapped made (MappedBy (λ xs v. v.items ≡ xs) (ReadsCount (number_of i) k))) rest_symmetric
