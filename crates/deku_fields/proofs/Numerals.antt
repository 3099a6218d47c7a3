-- Texts of numbers: what is parsed is what they name.
use Rattle.std.proofs.Common.{◌≡◌, ℕ, ◌<◌, ◌≤◌, ◌^◌, true, List, ◌++◌, drop, get_or, codes, Ok, Err, ℤ, pos, neg_ℤ, refl, ap, sym, ◌∙◌, subst, arith}
use Rattle.std.proofs.lemmas.Str.Parse.{IsNumeralModel, numerals_by_value, tells_digits, parse_digits, parse_signed_minus, parse_signed_digits}
use Rattle.std.specs.Int.{w128}
use Rattle.std.specs.Str.Parse.{AllDigits, IsNumeral, digits_value, ParsesUnsigned, ParsesSigned}
use Rattle.deku_fields.specs.declared.list.Kind.{Kind}
use Rattle.deku_fields.specs.declared.list.Number.{Number}
use Rattle.deku_fields.specs.declared.list.Number.TheVariants.{Unsigned, Signed}
use Rattle.deku_fields.specs.Items.{number_type}
use Rattle.deku_fields.specs.Naming.{NamesNumber, Negative, Positive, Plain}

model : IsNumeralModel (AllDigits 10) (digits_value 10)
model = numerals_by_value (AllDigits 10) tells_digits

-- after a minus
pub negative : (kind : Kind) (text digits : List ℕ) (v w : ℤ) → text ≡ codes "-" ++ digits → IsNumeral 10 digits → ParsesSigned {E = ℕ} w128 10 text (Ok w) → v ≡ w
    → NamesNumber kind text (Signed v)
negative kind text digits v w e n h s =
    let d = parse_signed_minus model {E = ℕ} w128 text (Ok w) h (ap (λ t. get_or t 0 0) e) in
    let same : drop 1 text ≡ digits = ap (drop 1) e in
    let worth : neg_ℤ (pos (digits_value 10 digits)) ≡ v = sym (s ∙ d.1 ∙ ap (λ t. neg_ℤ (pos (digits_value 10 t))) same) in
    subst (λ x. NamesNumber kind text (Signed x)) worth (Negative digits e n (subst (λ t. digits_value 10 t ≤ 2 ^ 127) same d.0.2))

-- digits, for a signed kind
pub positive : (kind : Kind) (text : List ℕ) (v w : ℤ) → IsNumeral 10 text → (number_type kind).signed ≡ true → ParsesSigned {E = ℕ} w128 10 text (Ok w) → v ≡ w
    → NamesNumber kind text (Signed v)
positive kind text v w n signed h s =
    let d = parse_signed_digits model {E = ℕ} w128 text (Ok w) h n.1 in
    subst (λ x. NamesNumber kind text (Signed x)) (sym (s ∙ d.1)) (Positive n signed d.0.1)

-- digits otherwise
pub plain : (kind : Kind) (text : List ℕ) (w : ℕ) → IsNumeral 10 text → ((number_type kind).signed ≡ true → 2 ^ 127 ≤ digits_value 10 text) → ParsesUnsigned {E = ℕ} 128 10 text (Ok w)
    → NamesNumber kind text (Unsigned w)
plain kind text w n beyond h =
    let d = parse_digits model {E = ℕ} 128 text (Ok w) h n.1 in
    subst (λ x. NamesNumber kind text (Unsigned x)) (sym d.1) (Plain n beyond d.0.1)

-- digits that are no signed number are beyond all of them
pub beyond : (text : List ℕ) → IsNumeral 10 text → ParsesSigned {E = ℕ} w128 10 text (Err 0) → 2 ^ 127 ≤ digits_value 10 text
beyond text n h =
    let d = parse_signed_digits model {E = ℕ} w128 text (Err 0) h n.1 in
    let none : digits_value 10 text < 2 ^ 127 → ⊥ = λ l. d (n.0, l) in
    omega (arith, none)

-- a minus is no digit
no_minus : (text digits : List ℕ) → text ≡ codes "-" ++ digits → IsNumeral 10 text → ⊥
no_minus text digits e n = let m : IsNumeral 10 (codes "-" ++ digits) = subst (IsNumeral 10) e n in omega (arith, m.1.0)

-- a text names one number
pub number_one : (kind : Kind) (text : List ℕ) (m n : Number) → NamesNumber kind text m → NamesNumber kind text n → m ≡ n
number_one kind text _ _ (Negative ds e a b) (Negative es f c d) =
    let g : codes "-" ++ ds ≡ codes "-" ++ es = sym e ∙ f in
    let same : ds ≡ es = cc in
    ap (λ t. Signed (neg_ℤ (pos (digits_value 10 t)))) same
number_one kind text _ _ (Negative ds e a b) (Positive c s d) = absurd (no_minus text ds e c)
number_one kind text _ _ (Negative ds e a b) (Plain c s d) = absurd (no_minus text ds e c)
number_one kind text _ _ (Positive a s b) (Negative es f c d) = absurd (no_minus text es f a)
number_one kind text _ _ (Positive a s b) (Positive c t d) = refl
number_one kind text _ _ (Positive a s b) (Plain c t d) = absurd (let l = t s in omega arith)
number_one kind text _ _ (Plain a s b) (Negative es f c d) = absurd (no_minus text es f a)
number_one kind text _ _ (Plain a s b) (Positive c t d) = absurd (let l = s t in omega arith)
number_one kind text _ _ (Plain a s b) (Plain c t d) = refl
