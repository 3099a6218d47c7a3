-- Values of which only one is the same as a constant.
use Rattle.std.proofs.Common.{◌≡◌, ℕ, List, [], ◌∷◌, refl, ap, ap₂, sym, ◌∙◌}
use Rattle.deku_pieces.specs.Pieces.{SameEach}

-- items that are equal, one by one
pub same_items : (vs ws : List ℕ) → SameEach (λ v w. v ≡ w) vs ws → ws ≡ vs
same_items [] [] e = refl
same_items [] (w ∷ ws) e = absurd e
same_items (v ∷ vs) [] e = absurd e
same_items (v ∷ vs) (w ∷ ws) e = ap₂ (λ x xs. x ∷ xs) (sym e.0) (same_items vs ws e.1)

-- a part of this number
pub is_part : {I : Type 0} (number_of : I → ℕ) (part_of : ℕ → I) → ((i : I) → part_of (number_of i) ≡ i) → (n : ℕ) (i : I) → number_of i ≡ n → i ≡ part_of n
is_part number_of part_of again n i e = sym (again i) ∙ ap part_of e
