-- How many bits fields take, one more at a time.
use Rattle.std.proofs.Common.{◌≡◌, ℕ, ◌+◌, ◌<◌, ◌≤◌, ◌^◌, List, [], ◌∷◌, ◌++◌, length, map, take, drop, get_or, All, ap, sym, ◌∙◌, subst, ⊎_elim, arith}
use Rattle.std.proofs.lemmas.Bool.{cases_lt}
use Rattle.std.proofs.lemmas.List.{map_more, map_push, map-append, length-map, get_or-map, take-append-drop}
use Rattle.std.proofs.lemmas.List.Elements.{All-push, All-get_or}
use Rattle.deku_bits.specs.declared.ctx.Order.{Order}
use Rattle.deku_bits.specs.Pieces.{total}
use Rattle.deku_num.specs.declared.kind.NumberType.{NumberType}
use Rattle.deku_num.specs.Numbers.{IsAllowed, width}
use Rattle.deku_fields.specs.declared.list.Field.{Field}
use Rattle.deku_fields.specs.Items.{number_type, IsAllowedField, field_shape, field_width}
use Rattle.deku_c.specs.declared.codes.FieldCode.{FieldCode}
use Rattle.deku_c.specs.Codes.{field_in, fields_in}

total-append : (xs ys : List (Order × ℕ)) → total (xs ++ ys) ≡ total xs + total ys
total-append [] ys = omega arith
total-append (x ∷ xs) ys = omega (arith, total-append xs ys)

-- the bits of fields
abbrev pub bits : List FieldCode → ℕ
bits cs = total (map field_shape (fields_in cs))

bits-append : (cs ds : List FieldCode) → bits (cs ++ ds) ≡ bits cs + bits ds
bits-append cs ds =
    ap (λ x. total (map field_shape x)) (map-append field_in cs ds) ∙ ap total (map-append field_shape (fields_in cs) (fields_in ds))
    ∙ total-append (map field_shape (fields_in cs)) (map field_shape (fields_in ds))

pub bits_more : (cs : List FieldCode) (i : ℕ) (d : FieldCode) → i < length cs → bits (take (i + 1) cs) ≡ bits (take i cs) + field_width (field_in (get_or cs i d))
bits_more cs i d l =
    let f : Field = field_in (get_or cs i d) in
    let fields : fields_in (take (i + 1) cs) ≡ fields_in (take i cs) ++ f ∷ [] = map_more field_in cs i d l in
    let shapes = map_push field_shape (fields_in (take i cs)) f in
    omega (arith, ap (λ x. total (map field_shape x)) fields, ap total shapes, total-append (map field_shape (fields_in (take i cs))) (field_shape f ∷ []))

-- the first ones take no more than all
pub bits_within : (cs : List FieldCode) (i : ℕ) → bits (take i cs) ≤ bits cs
bits_within cs i = omega (arith, bits-append (take i cs) (drop i cs), ap bits (take-append-drop i cs))

pub allowed_more : (cs : List FieldCode) (i : ℕ) (d : FieldCode) → i < length cs → All IsAllowedField (fields_in (take i cs)) → IsAllowedField (field_in (get_or cs i d))
    → All IsAllowedField (fields_in (take (i + 1) cs))
allowed_more cs i d l all one = subst (λ x. All IsAllowedField x) (sym (map_more field_in cs i d l)) (All-push IsAllowedField (fields_in (take i cs)) (field_in (get_or cs i d)) all one)

pub each_allowed : (cs : List FieldCode) (i : ℕ) (d : FieldCode) → i < length cs → All IsAllowedField (fields_in cs) → IsAllowedField (field_in (get_or cs i d))
each_allowed cs i d l all =
    let k = All-get_or IsAllowedField (fields_in cs) i (field_in d) (omega (arith, length-map cs field_in)) all in
    subst (λ x. IsAllowedField x) (get_or-map field_in cs i d (field_in d) l) k

-- ---- the field of a code, as it was checked
pub one_allowed : (t : NumberType) (f g : Field) → t ≡ number_type f.kind → f ≡ g → IsAllowed t f.layout → IsAllowedField g
one_allowed t f g e k a = subst (λ h. IsAllowedField h) k (subst (λ s. IsAllowed s f.layout) e a)

pub allowed_one : (t : NumberType) (f g : Field) → t ≡ number_type f.kind → f ≡ g → IsAllowedField g → IsAllowed t f.layout
allowed_one t f g e k a = subst (λ s. IsAllowed s f.layout) (sym e) (subst (λ h. IsAllowedField h) (sym k) a)

pub one_wide : (t : NumberType) (f g : Field) (n : ℕ) → t ≡ number_type f.kind → f ≡ g → n ≡ width t f.layout → n ≡ field_width g
one_wide t f g n e k w = w ∙ ap (λ s. width s f.layout) e ∙ ap field_width k

-- one more field, whose bits are counted
pub sum_more : (cs : List FieldCode) (i : ℕ) (d : FieldCode) (sum n more : ℕ) → i < length cs → sum ≡ bits (take i cs) → n ≡ field_width (field_in (get_or cs i d)) → more ≡ sum + n
    → more ≡ bits (take (i + 1) cs)
sum_more cs i d sum n more l e w m = omega (arith, bits_more cs i d l, e, w, m)

-- one more field, whose bits cannot be counted
pub sum_past : (cs : List FieldCode) (i : ℕ) (d : FieldCode) (sum n : ℕ) → i < length cs → sum ≡ bits (take i cs) → n ≡ field_width (field_in (get_or cs i d)) → (sum + n < 2 ^ 64 → ⊥)
    → 2 ^ 64 ≤ bits cs
sum_past cs i d sum n l e w past = ⊎_elim (λ (few : sum + n < 2 ^ 64). absurd (past few)) (λ (many : 2 ^ 64 ≤ sum + n). omega (arith, bits_more cs i d l, bits_within cs (i + 1), e, w)) (cases_lt (sum + n) (2 ^ 64))
