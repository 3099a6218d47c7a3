-- Fields that are looked at one after the other, whether they have a picture.
use Rattle.std.proofs.Common.{ℕ, zero, suc, ◌+◌, ◌*◌, ◌%◌, ◌<◌, ◌≤◌, ◌≡◌, ◌⊎◌, List, [], ◌∷◌, ◌++◌, length, map, take, get_or, All, refl, ap, sym, ◌∙◌, subst, inl, inr, ⊎_elim, arith, codes, true, false, not}
use Rattle.std.specs.Borrow.{Bor}
use Rattle.std.proofs.lemmas.Option.{slice_get-get_or}
use Rattle.std.proofs.lemmas.List.{take_more, map_more, map_push}
use Rattle.std.proofs.lemmas.List.Elements.{All-push}
use Rattle.deku_bits.specs.declared.ctx.Order.{Order}
use Rattle.deku_bits.specs.declared.ctx.Order.TheVariants.{Msb0, Lsb0}
use Rattle.deku_bits.specs.contracts.ctx.Order.{the_type}
use denote.Enum.Bare.{sameb}
use Rattle.deku_bits.specs.declared.error.DekuError.TheVariants.{InvalidParam}
use Rattle.deku_bits.specs.Pieces.{AlignedFrom, total, last_order}
use Rattle.deku_fields.specs.declared.list.Field.{Field}
use Rattle.deku_fields.specs.Items.{field_width, field_shape, IsAllowedField, AlignedFields}
use Rattle.deku_fields.specs.Places.{AreDrawable, IsUndrawable}

-- ---- one width more
-- it begins at the bit t, in the order q
abbrev Follows : ℕ → Order → Order → ℕ → Type 0
Follows t o q w = (w ≡ 0) ⊎ (t % 8 ≡ 0) ⊎ (q ≡ o)

aligned_more : (xs : List (Order × ℕ)) (n t : ℕ) (o q : Order) (w : ℕ) → t ≡ n + total xs → AlignedFrom n o xs → Follows t (last_order o xs) q w → AlignedFrom n o (xs ++ (q, w) ∷ [])
aligned_more [] n t o q zero e h f = tt
aligned_more [] n t o q (suc w) e h (inl z) = absurd (omega arith)
aligned_more [] n t o q (suc w) e h (inr (inl z)) = (inl (omega arith), tt)
aligned_more [] n t o q (suc w) e h (inr (inr s)) = (inr s, tt)
aligned_more ((p, zero) ∷ xs) n t o q w e h f = aligned_more xs n t o q w (omega arith) h f
aligned_more ((p, suc v) ∷ xs) n t o q w e h f = (h.0, aligned_more xs (n + suc v) t p q w (omega arith) h.1 f)

aligned_last : (xs : List (Order × ℕ)) (n t : ℕ) (o q : Order) (w : ℕ) → t ≡ n + total xs → AlignedFrom n o (xs ++ (q, w) ∷ []) → Follows t (last_order o xs) q w
aligned_last [] n t o q zero e h = inl refl
aligned_last [] n t o q (suc w) e h = ⊎_elim (λ (z : n % 8 ≡ 0). inr (inl (omega arith))) (λ (s : q ≡ o). inr (inr s)) h.0
aligned_last ((p, zero) ∷ xs) n t o q w e h = aligned_last xs n t o q w (omega arith) h
aligned_last ((p, suc v) ∷ xs) n t o q w e h = aligned_last xs (n + suc v) t p q w (omega arith) h.1

total_more : (xs : List (Order × ℕ)) (f : Order × ℕ) → total (xs ++ f ∷ []) ≡ total xs + f.1
total_more [] f = omega arith
total_more (x ∷ xs) f = omega (arith, total_more xs f)

-- the order after it
abbrev next_order : Order → Order → ℕ → Order
next_order o q w = last_order o ((q, w) ∷ [])

last_more : (xs : List (Order × ℕ)) (o q : Order) (w : ℕ) → last_order o (xs ++ (q, w) ∷ []) ≡ next_order (last_order o xs) q w
last_more [] o q w = refl
last_more ((p, zero) ∷ xs) o q w = last_more xs o q w
last_more ((p, suc v) ∷ xs) o q w = last_more xs p q w

next_some : (o q : Order) (w : ℕ) → 0 < w → next_order o q w ≡ q
next_some o q zero h = absurd (omega arith)
next_some o q (suc w) h = refl

-- ---- one field more
-- the first m fields have a picture: so many bits, and this order after them
abbrev pub IsDrawn : List Field → ℕ → ℕ → Order → Type 0
IsDrawn fs m bits o = (bits ≡ total (map field_shape (take m fs)))
    × (bits ≤ 128 * m)
    × (o ≡ last_order Msb0 (map field_shape (take m fs)))
    × AreDrawable (take m fs)

-- what a look at a field found of it
pub record IsSeen (f : Field) (w : ℕ) : Type 0 where
  pub wide : w ≡ field_width f
  pub few : w ≤ 128
  pub allowed : IsAllowedField f

drawn_more : (fs : List Field) (m : ℕ) (d : Field) (bits w : ℕ) (o p : Order) → m < length fs → IsDrawn fs m bits o → IsSeen (get_or fs m d) w
    → Follows bits o (get_or fs m d).layout.order w → p ≡ next_order o (get_or fs m d).layout.order w → IsDrawn fs (m + 1) (bits + w) p
drawn_more fs m d bits w o p h a seen follows e =
    let f : Field = get_or fs m d in
    let q : Order = f.layout.order in
    let X : List (Order × ℕ) = map field_shape (take m fs) in
    let shapes : map field_shape (take (m + 1) fs) ≡ X ++ field_shape f ∷ [] = map_more field_shape fs m d h in
    let count : total (map field_shape (take (m + 1) fs)) ≡ total X + field_width f = ap total shapes ∙ total_more X (field_shape f) in
    let begins : bits ≡ 0 + total X = omega (arith, a.0) in
    let here : Follows bits (last_order Msb0 X) q (field_width f) =
    subst (λ n. Follows bits (last_order Msb0 X) q n) seen.wide (subst (λ x. Follows bits x q w) a.2 follows) in (
      omega (arith, a.0, seen.wide),
      omega (arith, a.1, seen.few),
      e ∙ ap (λ x. next_order x q w) a.2 ∙ ap (λ n. next_order (last_order Msb0 X) q n) seen.wide ∙ sym (last_more X Msb0 q (field_width f)) ∙ ap (last_order Msb0) (sym shapes),
      record {
        allowed = subst (λ x. All IsAllowedField x) (sym (take_more fs m d h)) (All-push IsAllowedField (take m fs) f a.3.allowed seen.allowed);
        aligned = subst (λ x. AlignedFrom 0 Msb0 x) (sym shapes) (aligned_more X 0 bits Msb0 q (field_width f) begins a.3.aligned here);
      },
    )

pub drawn_none : (fs : List Field) (m : ℕ) (d : Field) (bits w : ℕ) (o p : Order) → m < length fs → IsDrawn fs m bits o → IsSeen (get_or fs m d) w → w ≤ 0 → p ≡ o → IsDrawn fs (m + 1) (bits + w) p
drawn_none fs m d bits w o p h a seen z e =
    let none : w ≡ 0 = omega arith in
    drawn_more fs m d bits w o p h a seen (inl none) (e ∙ ap (λ n. next_order o (get_or fs m d).layout.order n) (sym none))

pub drawn_some : (fs : List Field) (m : ℕ) (d : Field) (bits w : ℕ) (o p : Order) → m < length fs → IsDrawn fs m bits o → IsSeen (get_or fs m d) w → 0 < w
    → (bits % 8 ≡ 0) ⊎ ((get_or fs m d).layout.order ≡ o) → p ≡ (get_or fs m d).layout.order → IsDrawn fs (m + 1) (bits + w) p
drawn_some fs m d bits w o p h a seen some follows e =
    drawn_more fs m d bits w o p h a seen (inr follows) (e ∙ sym (next_some o (get_or fs m d).layout.order w some))

-- an order that is another one inside a byte
pub drawn_last : (fs : List Field) (m : ℕ) (d : Field) (bits w : ℕ) (o : Order) (t : Bor (List ℕ)) → m < length fs → IsDrawn fs m bits o → IsSeen (get_or fs m d) w → 0 < w
    → (bits % 8 ≡ 0 → ⊥) → ((get_or fs m d).layout.order ≡ o → ⊥) → t.now ≡ codes "order changes inside a byte" → IsUndrawable fs (InvalidParam t)
drawn_last fs m d bits w o t h a seen some inside other told = record {
  index = m;
  holder = get_or fs m d;
  there = slice_get-get_or fs m d h;
  before = a.3;
  why = inr (seen.allowed, turned, record { words = t; says = told; is = refl });
}
  where
    turned : AlignedFields (take m fs ++ get_or fs m d ∷ []) → ⊥
    turned aligned =
        let q : Order = (get_or fs m d).layout.order in
        let X : List (Order × ℕ) = map field_shape (take m fs) in
        let begins : bits ≡ 0 + total X = omega (arith, a.0) in
        let f : Follows bits (last_order Msb0 X) q (field_width (get_or fs m d)) =
        aligned_last X 0 bits Msb0 q (field_width (get_or fs m d)) begins (subst (λ x. AlignedFrom 0 Msb0 x) (map_push field_shape (take m fs) (get_or fs m d)) aligned) in
        ⊎_elim (λ (z : field_width (get_or fs m d) ≡ 0). absurd (omega (arith, seen.wide)))
        (λ (x : (bits % 8 ≡ 0) ⊎ (q ≡ last_order Msb0 X)). ⊎_elim (λ (z : bits % 8 ≡ 0). inside z) (λ (z : q ≡ last_order Msb0 X). other (z ∙ sym a.2)) x) f

-- ---- two orders
pub same : (a b : Order) → false ≡ not (sameb the_type a b) → a ≡ b
same Msb0 Msb0 e = refl
same Lsb0 Lsb0 e = refl
same Msb0 Lsb0 e = cc e
same Lsb0 Msb0 e = cc e

pub different : (a b : Order) → true ≡ not (sameb the_type a b) → a ≡ b → ⊥
different Msb0 Msb0 e s = cc e
different Lsb0 Lsb0 e s = cc e
different Msb0 Lsb0 e s = cc s
different Lsb0 Msb0 e s = cc s
