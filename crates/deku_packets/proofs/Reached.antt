-- Layers that are written back, one after the other.
use Rattle.std.proofs.Common.{◌≡◌, ℕ, ◌+◌, ◌<◌, ◌≤◌, List, [], ◌∷◌, ◌++◌, length, take, get_or, All, sym, ap, subst, ◌∙◌}
use Rattle.std.proofs.lemmas.List.{take_more, take_all}
use Rattle.std.proofs.lemmas.List.Elements.{All-more}
use Rattle.deku_packets.specs.declared.layer.Placed.{Placed}
use Rattle.deku_packets.specs.Back.{Writing, IsBack, IsReached}

-- the layer at an index, before which all are written back
pub reached_at : (writes : Writing) (bytes : List ℕ) (layers : List Placed) (i : ℕ) (p : Placed) → i < length layers → p ≡ get_or layers i p
    → All (IsBack writes bytes) (take i layers) → IsReached writes bytes layers i p
reached_at writes bytes layers i p h is all = record { before = all; there = take_more layers i p h ∙ ap (λ x. take i layers ++ (x ∷ [])) (sym is) }

-- one more is written back
pub one_more : (writes : Writing) (bytes : List ℕ) (layers : List Placed) (i : ℕ) (p : Placed) → i < length layers → p ≡ get_or layers i p
    → All (IsBack writes bytes) (take i layers) → IsBack writes bytes p → All (IsBack writes bytes) (take (i + 1) layers)
one_more writes bytes layers i p h is all back = All-more (IsBack writes bytes) layers i p h all (subst (IsBack writes bytes) is back)

-- all are
pub all_back : (writes : Writing) (bytes : List ℕ) (layers : List Placed) (i : ℕ) → length layers ≤ i → All (IsBack writes bytes) (take i layers) → All (IsBack writes bytes) layers
all_back writes bytes layers i h all = subst (All (IsBack writes bytes)) (take_all i layers h) all
