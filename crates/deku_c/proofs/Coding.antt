-- Fields and numbers of C, and lists of them, one more at a time.
use Rattle.std.proofs.Common.{◌≡◌, ℕ, zero, suc, ◌+◌, ◌*◌, ◌<◌, ◌≤◌, cond, leb, List, [], ◌∷◌, ◌++◌, length, take, drop, get_or, ℤ, pos, ◌-ℤ◌, refl, ap, ap₂, sym, ◌∙◌, arith}
use Rattle.std.proofs.lemmas.Bool.{le-leb, lt-leb}
use Rattle.std.proofs.lemmas.List.{take_more, length-take-le}
use Rattle.deku_c.specs.declared.codes.FieldCode.{FieldCode}
use Rattle.deku_c.specs.declared.codes.NumberCode.{NumberCode}
use Rattle.deku_c.specs.Codes.{item_in, items_in}

-- ---- two's complement of 128 bits
abbrev signed : ℕ → ℕ → ℤ
signed H m = cond (leb H m) (pos m -ℤ pos (H * 2)) (pos m)

signed_low : (H m : ℕ) → m < H → signed H m ≡ pos m
signed_low H m h = rw (lt-leb H m h) refl

signed_high : (H m : ℕ) → H ≤ m → signed H m ≡ pos m -ℤ pos (H * 2)
signed_high H m h = rw (le-leb H m h) refl

-- ---- lists of items
items_push : (cs : List FieldCode) (vs : List NumberCode) (c : FieldCode) (v : NumberCode) → length vs ≡ length cs
    → items_in (cs ++ c ∷ []) (vs ++ v ∷ []) ≡ items_in cs vs ++ item_in c v ∷ []
items_push [] [] c v e = refl
items_push [] (x ∷ vs) c v e = absurd (omega arith)
items_push (d ∷ cs) [] c v e = absurd (omega arith)
items_push (d ∷ cs) (x ∷ vs) c v e = ap (λ z. item_in d x ∷ z) (items_push cs vs c v (omega arith))

-- one more field with its number
pub items_more : (cs : List FieldCode) (vs ws : List NumberCode) (i : ℕ) (d : FieldCode) (v : NumberCode) → i < length cs → i < length vs → take (i + 1) ws ≡ take i vs ++ v ∷ []
    → items_in (take (i + 1) cs) (take (i + 1) ws) ≡ items_in (take i cs) (take i vs) ++ item_in (get_or cs i d) v ∷ []
items_more cs vs ws i d v l m e =
    let same : length (take i vs) ≡ length (take i cs) = length-take-le i vs (omega arith) ∙ sym (length-take-le i cs (omega arith)) in
    ap₂ (λ a b. items_in a b) (take_more cs i d l) e ∙ items_push (take i cs) (take i vs) (get_or cs i d) v same

no_items : (cs : List FieldCode) → items_in cs [] ≡ []
no_items [] = refl
no_items (c ∷ cs) = refl

-- the first i of them, and the others
pub items_cut : (i : ℕ) (cs : List FieldCode) (vs : List NumberCode) → items_in cs vs ≡ items_in (take i cs) (take i vs) ++ items_in (drop i cs) (drop i vs)
items_cut zero cs vs = refl
items_cut (suc i) [] vs = refl
items_cut (suc i) (c ∷ cs) [] = sym (no_items (drop i cs))
items_cut (suc i) (c ∷ cs) (v ∷ vs) = ap (λ z. item_in c v ∷ z) (items_cut i cs vs)
