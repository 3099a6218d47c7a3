-- Bits of fields that are put at their places one after the other.
use Rattle.std.proofs.Common.{ℕ, ◌+◌, ◌*◌, ◌-◌, ◌<◌, ◌≤◌, ◌≡◌, ◌≢◌, ◌⊎◌, ◌↔◌, List, [], ◌∷◌, ◌++◌, length, map, take, drop, set, get_or, Option, Some, None, Result, Ok, Err, IsOk, IfOk, ap, sym, ◌∙◌, subst, inl, inr, ⊎_elim, arith, take-append-drop, length-set, get_or-set_same, get_or-set_other}
use Rattle.std.specs.List.{slice_get}
use Rattle.std.specs.Result.{result_unwrap_or}
use Rattle.std.proofs.lemmas.Bool.{cases_lt, cases_eq}
use Rattle.std.proofs.lemmas.Option.{same_Some, slice_get_within, slice_get-get_or}
use Rattle.std.proofs.lemmas.List.{take_more, get_or-map, length-map}
use Rattle.deku_bits.specs.declared.ctx.Order.{Order}
use Rattle.deku_bits.specs.declared.ctx.Order.TheVariants.{Msb0, Lsb0}
use Rattle.deku_bits.specs.Bits.{groups}
use Rattle.deku_bits.specs.Pieces.{total}
use Rattle.deku_num.specs.declared.kernel.Misfit.{Misfit}
use Rattle.deku_num.specs.declared.kind.NumberType.{NumberType}
use Rattle.deku_num.specs.Numbers.{width, IsAllowed}
use Rattle.deku_num.specs.NumberLaws.{place}
use Rattle.deku_fields.specs.declared.list.Field.{Field}
use Rattle.deku_fields.specs.declared.picture.Place.{Place}
use Rattle.deku_fields.specs.Items.{number_type, field_width, field_shape, IsAllowedField}
use Rattle.deku_fields.specs.Places.{printed_at, start, Stands, IsAt, IsMarked}

-- ---- widths
-- the width that was asked for of a layout that is not refused
pub asked_width : (f : Field) (t : NumberType) (r : Result ℕ Misfit) (n : ℕ) → t ≡ number_type f.kind → (IsOk r ↔ IsAllowed t f.layout) → IfOk r (λ x. x ≡ width t f.layout)
    → n ≡ result_unwrap_or r 0 → IsAllowedField f → n ≡ field_width f
asked_width f t (Ok x) n e some is k ok = k ∙ is ∙ ap (λ y. width y f.layout) e
asked_width f t (Err x) n e some is k ok = cc (some.1 (subst (λ y. IsAllowed y f.layout) (sym e) ok))

total-append : (xs ys : List (Order × ℕ)) → total (xs ++ ys) ≡ total xs + total ys
total-append [] ys = omega arith
total-append (x ∷ xs) ys = omega (arith, total-append xs ys)

-- the fields before the next one
pub start_more : (fs : List Field) (m : ℕ) (d : Field) → m < length fs → start fs (m + 1) ≡ start fs m + field_width (get_or fs m d)
start_more fs m d h =
    let xs : List (Order × ℕ) = map field_shape fs in
    let l : m < length xs = omega (arith, length-map fs field_shape) in
    ap total (take_more xs m (field_shape d) l) ∙ total-append (take m xs) (get_or xs m (field_shape d) ∷ [])
    ∙ ap (λ x. total (take m xs) + (x.1 + 0)) (get_or-map field_shape fs m d (field_shape d) h) ∙ omega arith

pub start_within : (fs : List Field) (m : ℕ) → start fs m ≤ total (map field_shape fs)
start_within fs m =
    let xs : List (Order × ℕ) = map field_shape fs in
    omega (arith, ap total (take-append-drop m xs), total-append (take m xs) (drop m xs))

-- a bit of the fields is within their bytes
pub place_within : (o : Order) (n t c l : ℕ) → c ≡ printed_at o n → l ≡ 8 * groups t → n < t → c < l
place_within Msb0 n t c l e r h = omega arith
place_within Lsb0 n t c l e r h = omega arith

-- the m-th field has n bits, which begin at the bit `at` that is met
pub record IsNext (fs : List Field) (m : ℕ) (f : Field) (at n : ℕ) : Type 0 where
  pub wide : n ≡ field_width f
  pub next : at + n ≡ start fs (m + 1)
  pub within : at + n ≤ total (map field_shape fs)

pub is_next : (fs : List Field) (m : ℕ) (d : Field) (at n : ℕ) → m < length fs → at ≡ start fs m → n ≡ field_width (get_or fs m d) → IsNext fs m (get_or fs m d) at n
is_next fs m d at n h a w =
    let next : at + n ≡ start fs (m + 1) = omega (arith, start_more fs m d h) in
    record { wide = w; next = next; within = omega (arith, start_within fs (m + 1)) }

-- ---- one bit more
-- the field that holds it
same_holder : (fs : List Field) (m : ℕ) (d f : Field) → m < length fs → slice_get fs m ≡ Some f → f ≡ get_or fs m d
same_holder fs m d f h e = same_Some f (get_or fs m d) (sym e ∙ slice_get-get_or fs m d h)

-- what another place has stays what is there
kept : (fs : List Field) (m i c k : ℕ) (d : Field) (cell : Option Place) → m < length fs → c ≡ printed_at (get_or fs m d).layout.order (start fs m + i) → k ≢ c
    → IsMarked fs m i k cell → IsMarked fs m (i + 1) k cell
kept fs m i c k d (Some p) h e other x = x
kept fs m i c k d None h e other x = λ p s before. ⊎_elim
    (λ (l : p.field < m). x p s (inl l))
    (λ (l : (p.field ≡ m) × (s.index < i + 1)). ⊎_elim
    (λ (b : s.index < i). x p s (inr (l.0, b)))
    (λ (b : i ≤ s.index).
    let last : s.index ≡ i = omega (arith, l.1) in
    let holder : s.holder ≡ get_or fs m d = same_holder fs m d s.holder h (subst (λ n. slice_get fs n ≡ Some s.holder) l.0 s.there) in
    absurd (other (s.stands ∙ ap (λ f. printed_at f.layout.order (start fs p.field + s.index)) holder
    ∙ ap (λ n. printed_at (get_or fs m d).layout.order (start fs n + s.index)) l.0
    ∙ ap (λ n. printed_at (get_or fs m d).layout.order (start fs m + n)) last ∙ sym e)))
    (cases_lt s.index i))
    before

abbrev pub AreMarked : List Field → ℕ → ℕ → List (Option Place) → Type 0
AreMarked fs m i cells = (k : ℕ) → k < length cells → IsMarked fs m i k (get_or cells k None)

pub bit_marked : (fs : List Field) (m i at n c b : ℕ) (d : Field) (cells : List (Option Place)) → m < length fs → at ≡ start fs m → n ≡ field_width (get_or fs m d) → i < n
    → c ≡ printed_at (get_or fs m d).layout.order (at + i) → b ≡ place (get_or fs m d).layout.endian (get_or fs m d).layout.order n i → c < length cells
    → AreMarked fs m i cells → AreMarked fs m (i + 1) (set cells c (Some (record { field = m; bit = b })))
bit_marked fs m i at n c b d cells h begin wide l e w inside before k below = ⊎_elim here there (cases_eq k c)
  where
    p : Place
    p = record { field = m; bit = b }

    stands : c ≡ printed_at (get_or fs m d).layout.order (start fs m + i)
    stands = e ∙ ap (λ x. printed_at (get_or fs m d).layout.order (x + i)) begin

    here : k ≡ c → IsMarked fs m (i + 1) k (get_or (set cells c (Some p)) k None)
    here is =
        let s : Stands fs k p = record {
          holder = get_or fs m d;
          there = slice_get-get_or fs m d h;
          index = i;
          below = subst (λ x. i < x) wide l;
          weight = w ∙ ap (λ x. place (get_or fs m d).layout.endian (get_or fs m d).layout.order x i) wide;
          stands = is ∙ stands;
        } in
        let got : get_or (set cells c (Some p)) k None ≡ Some p = ap (λ x. get_or (set cells c (Some p)) x None) is ∙ get_or-set_same cells c (Some p) None inside in
        subst (λ x. IsMarked fs m (i + 1) k x) (sym got) s

    there : k ≢ c → IsMarked fs m (i + 1) k (get_or (set cells c (Some p)) k None)
    there other =
        let x : k < length cells = omega (arith, length-set cells c (Some p)) in
        subst (λ x. IsMarked fs m (i + 1) k x) (sym (get_or-set_other cells c k (Some p) None other))
        (kept fs m i c k d (get_or cells k None) h stands other (before k x))

-- ---- all bits of a field, and of all fields
whole_field : (fs : List Field) (m k : ℕ) (d : Field) (cell : Option Place) → m < length fs → IsMarked fs m (field_width (get_or fs m d)) k cell → IsMarked fs (m + 1) 0 k cell
whole_field fs m k d (Some p) h x = x
whole_field fs m k d None h x = λ p s before. ⊎_elim
    (λ (l : p.field < m + 1). ⊎_elim
    (λ (b : p.field < m). x p s (inl b))
    (λ (b : m ≤ p.field).
    let is : p.field ≡ m = omega (arith, l) in
    let holder : s.holder ≡ get_or fs m d = same_holder fs m d s.holder h (subst (λ n. slice_get fs n ≡ Some s.holder) is s.there) in
    x p s (inr (is, subst (λ f. s.index < field_width f) holder s.below)))
    (cases_lt p.field m))
    (λ (l : (p.field ≡ m + 1) × (s.index < 0)). absurd (omega (arith, l.1)))
    before

pub field_marked : (fs : List Field) (m n : ℕ) (d : Field) (cells : List (Option Place)) → m < length fs → n ≡ field_width (get_or fs m d) → AreMarked fs m n cells → AreMarked fs (m + 1) 0 cells
field_marked fs m n d cells h e all k l = whole_field fs m k d (get_or cells k None) h (subst (λ x. IsMarked fs m x k (get_or cells k None)) e (all k l))

whole_list : (fs : List Field) (m k : ℕ) (cell : Option Place) → m ≡ length fs → IsMarked fs m 0 k cell → IsAt fs k cell
whole_list fs m k (Some p) e x = x
whole_list fs m k None e x = λ p s. x p s (inl (omega (arith, slice_get_within fs p.field s.holder s.there)))

pub fields_marked : (fs : List Field) (m : ℕ) (cells : List (Option Place)) → m ≡ length fs → AreMarked fs m 0 cells → (k : ℕ) → k < length cells → IsAt fs k (get_or cells k None)
fields_marked fs m cells e all k l = whole_list fs m k (get_or cells k None) e (all k l)
