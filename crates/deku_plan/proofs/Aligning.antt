-- Fields whose order changes only at byte boundaries, looked at one after the other.
use Rattle.std.proofs.Common.{◌≡◌, ◌⊎◌, ◌↔◌, ℕ, zero, suc, ◌+◌, ◌%◌, ◌<◌, ◌≤◌, List, [], ◌∷◌, map, drop, get_or, length, ap, sym, ◌∙◌, subst, inl, inr, ⊎_elim, arith}
use Rattle.std.proofs.lemmas.List.{drop_more, drop_all}
use Rattle.deku_bits.specs.declared.ctx.Order.{Order}
use Rattle.deku_bits.specs.declared.ctx.Order.TheVariants.{Msb0}
use Rattle.deku_bits.specs.Pieces.{AlignedFrom}
use Rattle.deku_fields.specs.declared.list.Field.{Field}
use Rattle.deku_fields.specs.Items.{field_width, field_shape, AlignedFields}

-- only the bits after the last byte boundary count
moved : (xs : List (Order × ℕ)) (m n : ℕ) (o : Order) → m % 8 ≡ n % 8 → AlignedFrom m o xs → AlignedFrom n o xs
moved [] m n o e h = tt
moved ((q, zero) ∷ xs) m n o e h = moved xs m n o e h
moved ((q, suc w) ∷ xs) m n o e h = (
  ⊎_elim (λ (z : m % 8 ≡ 0). inl (sym e ∙ z)) (λ (s : q ≡ o). inr s) h.0,
  moved xs (m + suc w) (n + suc w) q (omega (arith, e)) h.1,
)

-- the fields are aligned if those from place i on are, after so many bits in this order
abbrev pub Depends : List Field → ℕ → ℕ → Order → Type 0
Depends fs i at o = (at < 8) × (AlignedFields fs ↔ AlignedFrom at o (map field_shape (drop i fs)))

pub depends_first : (fs : List Field) → Depends fs 0 0 Msb0
depends_first fs = (omega arith, (λ h. h, λ h. h))

next_is : (fs : List Field) (i : ℕ) (d : Field) → i < length fs → map field_shape (drop i fs) ≡ field_shape (get_or fs i d) ∷ map field_shape (drop (i + 1) fs)
next_is fs i d h = ap (map field_shape) (drop_more fs i d h)

pub some_on : (xs : List (Order × ℕ)) (at next w : ℕ) (o q : Order) → 0 < w → at < 8 → next ≡ (at + w) % 8 → (at ≡ 0) ⊎ (q ≡ o) → AlignedFrom at o ((q, w) ∷ xs) ↔ AlignedFrom next q xs
some_on xs at next zero o q some few e follows = absurd (omega (arith, some))
some_on xs at next (suc w) o q some few e follows = (
  λ h. moved xs (at + suc w) next q (omega (arith, e)) h.1,
  λ h. (⊎_elim (λ (z : at ≡ 0). inl (omega (arith, z))) (λ (s : q ≡ o). inr s) follows, moved xs next (at + suc w) q (omega (arith, e)) h),
)

-- a field after which the others are looked at like this
pub depends_more : (fs : List Field) (i : ℕ) (d : Field) (at next w : ℕ) (o p : Order) → i < length fs → w ≡ field_width (get_or fs i d) → next < 8
    → ((xs : List (Order × ℕ)) → AlignedFrom at o (((get_or fs i d).layout.order, w) ∷ xs) ↔ AlignedFrom next p xs) → Depends fs i at o → Depends fs (i + 1) next p
depends_more fs i d at next w o p h wide few on k =
    let f : Field = get_or fs i d in
    let rest : List (Order × ℕ) = map field_shape (drop (i + 1) fs) in
    let here : AlignedFields fs ↔ AlignedFrom at o (field_shape f ∷ rest) = subst (λ x. AlignedFields fs ↔ AlignedFrom at o x) (next_is fs i d h) k.1 in
    let on_rest : AlignedFrom at o (field_shape f ∷ rest) ↔ AlignedFrom next p rest = subst (λ n. AlignedFrom at o ((f.layout.order, n) ∷ rest) ↔ AlignedFrom next p rest) wide (on rest) in
    (few, (λ a. on_rest.0 (here.0 a), λ a. here.1 (on_rest.1 a)))

-- a field whose order is another one inside a byte
pub depends_not : (fs : List Field) (i : ℕ) (d : Field) (at w : ℕ) (o : Order) → i < length fs → w ≡ field_width (get_or fs i d)
    → ((xs : List (Order × ℕ)) → AlignedFrom at o (((get_or fs i d).layout.order, w) ∷ xs) → ⊥) → Depends fs i at o → AlignedFields fs → ⊥
depends_not fs i d at w o h wide none k a =
    let f : Field = get_or fs i d in
    let rest : List (Order × ℕ) = map field_shape (drop (i + 1) fs) in
    let here : AlignedFields fs ↔ AlignedFrom at o (field_shape f ∷ rest) = subst (λ x. AlignedFields fs ↔ AlignedFrom at o x) (next_is fs i d h) k.1 in
    none rest (subst (λ n. AlignedFrom at o ((f.layout.order, n) ∷ rest)) (sym wide) (here.0 a))

-- no field is left
pub depends_last : (fs : List Field) (i at : ℕ) (o : Order) → length fs ≤ i → Depends fs i at o → AlignedFields fs
depends_last fs i at o h k =
    let none : drop i fs ≡ [] = drop_all i fs h in
    k.1.1 (subst (λ x. AlignedFrom at o (map field_shape x)) (sym none) tt)
