-- The forms of the words: what is in front of the fields, and what a run ends with.
use Rattle.std.proofs.Common.{ℕ, zero, suc, get_or, take, drop, ◌<◌, ◌≡◌, ◌⊎◌, List, [], ◌∷◌, ◌++◌, length, codes, refl, ap, sym, ◌∙◌, subst, inl, inr, arith, Bor, Option}
use Rattle.std.specs.List.{AllZip}
use Rattle.std.specs.Prelude.{String, string_bytes, Result, Ok, Err, IfErr}
use Rattle.std.specs.Result.{IsErrAnd}
use Rattle.std.specs.declared.io.ErrorKind.TheVariants.{OutOfMemory}
use Rattle.deku_bits.specs.declared.error.DekuError.TheVariants.{Io}
use Rattle.deku_fields.specs.declared.list.Field.{Field}
use Rattle.deku_program.specs.Texts.{words_of}
use Rattle.deku_picture.specs.declared.program.Form.{Form}
use Rattle.deku_picture.specs.declared.program.Form.TheVariants.{Table, Svg, Bytes}
use Rattle.deku_picture.specs.declared.program.Failure.{Failure}
use Rattle.deku_picture.specs.declared.program.Failure.TheVariants.{Usage, NoField, BadText, Fault}
use Rattle.deku_picture.specs.Names.{Names, HasSpecs, AreNamed, NameFields, AreNoForm, HasUnnamed, HaveNoSpecs}
use Rattle.deku_picture.specs.Drawn.{AsksForBytes, BeginsWith, IsForm, IsSplit, HasValues, HasShown, HasNotShown, IsFailure, RunEnds, status_of}

-- the two options are two words
two_words : (word : List ℕ) → word ≡ codes "--svg" → word ≡ codes "--bytes" → ⊥
two_words word svg bytes = let lengths : ◌≡◌ {A = ℕ} 5 7 = ap length (sym svg ∙ bytes) in absurd (omega arith)

-- words have one form
pub one_form : (words a b : List (List ℕ)) → HasSpecs words a → HasSpecs words b → a ≡ b
one_form [] a b h k = absurd h
one_form (word ∷ words) a b (inl p) (inl q) = p.1 ∙ sym q.1
one_form (word ∷ words) a b (inl p) (inr (inl q)) = absurd (two_words word p.0 q.0)
one_form (word ∷ words) a b (inl p) (inr (inr q)) = absurd (q.0 p.0)
one_form (word ∷ words) a b (inr (inl p)) (inl q) = absurd (two_words word q.0 p.0)
one_form (word ∷ words) a b (inr (inl p)) (inr (inl q)) = let first = p.2 in let second = q.2 in cc
one_form (word ∷ words) a b (inr (inl p)) (inr (inr q)) = absurd (q.1 p.0)
one_form (word ∷ words) a b (inr (inr p)) (inl q) = absurd (p.0 q.0)
one_form (word ∷ words) a b (inr (inr p)) (inr (inl q)) = absurd (p.1 q.0)
one_form (word ∷ words) a b (inr (inr p)) (inr (inr q)) = p.2 ∙ sym q.2

-- ---- the three forms
pub svg_form : {S : Type 0} (args rest : List (String S)) (first : String S) → args ≡ first ∷ rest → string_bytes first ≡ codes "--svg" → IsForm (words_of args) Svg × HasSpecs (words_of args) (words_of rest)
svg_form args rest first e named = subst (λ xs. IsForm (words_of xs) Svg × HasSpecs (words_of xs) (words_of rest)) (sym e)
    ((words_of rest, ap (λ w. w ∷ words_of rest) named), inl (named, refl))

pub bytes_form : {S : Type 0} (args rest specs : List (String S)) (first text : String S) (shown : Bor (List ℕ)) → args ≡ first ∷ rest → string_bytes first ≡ codes "--bytes" → rest ≡ text ∷ specs → shown.now ≡ string_bytes text
    → IsForm (words_of args) (Bytes shown) × HasSpecs (words_of args) (words_of specs)
bytes_form args rest specs first text shown e named more is =
    let whole : args ≡ first ∷ text ∷ specs = e ∙ ap (λ xs. first ∷ xs) more in
    let words : words_of args ≡ codes "--bytes" ∷ shown.now ∷ words_of specs = ap words_of whole ∙ ap (λ w. w ∷ string_bytes text ∷ words_of specs) named ∙ ap (λ t. codes "--bytes" ∷ t ∷ words_of specs) (sym is) in
    ((words_of specs, words), subst (λ ws. HasSpecs ws (words_of specs)) (sym words) (inr (inl (refl, shown.now, refl))))

-- ---- what the words name
pub are_named : (words specs : List (List ℕ)) (fields : List Field) → HasSpecs words specs → 0 < length specs → AllZip Names specs fields → AreNamed words fields
are_named words specs fields h some named = record { specs = specs; behind = h; some = some; named = named }

pub none_named : (words specs : List (List ℕ)) → HasSpecs words specs → ((fields : List Field) → AllZip Names specs fields → ⊥) → AreNoForm words
none_named words specs h none fields named = none fields (subst (λ ws. AllZip Names ws fields) (one_form words named.specs specs named.behind h) named.named)

-- ---- what is shown
-- words that begin with `--svg` ask for an SVG
pub svg_asked : (words : List (List ℕ)) (form : Form) → IsForm words form → BeginsWith (codes "--svg") words → form ≡ Svg
svg_asked words Table is svg = absurd (is.0 svg)
svg_asked words Svg is svg = refl
svg_asked words (Bytes t) is svg = let same : codes "--svg" ≡ codes "--bytes" = let a = is.1 in let b = svg.1 in cc in absurd (two_words (codes "--svg") refl same)

pub shown_by : (words : List (List ℕ)) (form : Form) (fields : List Field) → IsForm words form → HasShown form fields → (text : List ℕ) → AsksForBytes words text → HasValues fields text
shown_by words Table fields is h text asked = absurd (is.1 (text ∷ asked.0, asked.1))
shown_by words Svg fields is h text asked = let same : codes "--svg" ≡ codes "--bytes" = let a = is.1 in let b = asked.1 in cc in absurd (two_words (codes "--svg") refl same)
shown_by words (Bytes t) fields is h text asked = let same : t.now ≡ text = let a = is.1 in let b = asked.1 in cc in subst (λ x. HasValues fields x) same h

pub stopped_by : (words : List (List ℕ)) (form : Form) (fields : List Field) (e : Failure) → AreNamed words fields → IsForm words form → HasNotShown form fields e → IsFailure words e
stopped_by words Table fields e named is h = absurd h
stopped_by words Svg fields e named is h = absurd h
stopped_by words (Bytes t) fields Usage named is (inl h) = let e = h.0 in absurd (cc)
stopped_by words (Bytes t) fields Usage named is (inr (inl h)) = let e = h.is in absurd (cc)
stopped_by words (Bytes t) fields Usage named is (inr (inr h)) = absurd (cc)
stopped_by words (Bytes t) fields (NoField w) named is (inl h) = let e = h.0 in absurd (cc)
stopped_by words (Bytes t) fields (NoField w) named is (inr (inl h)) = let e = h.is in absurd (cc)
stopped_by words (Bytes t) fields (NoField w) named is (inr (inr h)) = absurd (cc)
stopped_by words (Bytes t) fields BadText named is h = inr (inl (record { fields = fields; named = named; text = t.now; asked = is; stop = h }))
stopped_by words (Bytes t) fields (Fault f) named is h = inr (inl (record { fields = fields; named = named; text = t.now; asked = is; stop = h }))

-- fields that the words name, and no memory for them
pub named_stop : (words specs : List (List ℕ)) (e : Failure) → NameFields specs → ((status_of e ≡ 2) × ((fields : List Field) → AllZip Names specs fields → ⊥)) ⊎ (e ≡ Fault (Io OutOfMemory)) → IsFailure words e
named_stop words specs e are (inl none) = absurd (none.1 are.0 are.1)
named_stop words specs e are (inr full) = subst (IsFailure words) (sym full) (inr (inr refl))

-- words that are split into a form and fields are not of no form
pub split_named : (words specs : List (List ℕ)) (form : Form) → IsSplit words specs form → AreNoForm words → ⊥
split_named words specs form split none = none split.named.0 (record { specs = specs; behind = split.behind; some = split.some; named = split.named.1 })

-- ---- words
-- a text among others
pub at_word : {S : Type 0} (texts : List (String S)) (i : ℕ) (d : String S) → i < length texts → words_of texts ≡ words_of (take i texts) ++ string_bytes (get_or texts i d) ∷ words_of (drop (suc i) texts)
at_word [] i d l = absurd (omega arith)
at_word (t ∷ texts) zero d l = refl
at_word (t ∷ texts) (suc i) d l = ap (λ ws. string_bytes t ∷ ws) (at_word texts i d (omega arith))

-- where one of the words names no field, the words name no fields
none_in : (before after : List (List ℕ)) (w : List ℕ) (fields : List Field) → ((f : Field) → Names w f → ⊥) → AllZip Names (before ++ w ∷ after) fields → ⊥
none_in [] after w [] none named = absurd named
none_in [] after w (f ∷ fields) none named = none f named.0
none_in (b ∷ before) after w [] none named = absurd named
none_in (b ∷ before) after w (f ∷ fields) none named = none_in before after w fields none named.1

pub unnamed_form : (words : List (List ℕ)) (w : List ℕ) → HasUnnamed words w → AreNoForm words
unnamed_form words w un = none_named words un.0 un.1 (λ fields named. none_in un.2.before un.2.after w fields un.2.none (subst (λ ws. AllZip Names ws fields) un.2.is named))

-- words without those of fields name none
pub without_specs : (words : List (List ℕ)) → HaveNoSpecs words → AreNoForm words
without_specs words none fields named = let same = ap length (none named.specs named.behind) in omega (arith, same, named.some)

-- ---- statuses
-- an error that is so is so otherwise
pub err_so : {T E : Type 0} (r : Result T E) (P Q : E → Type 0) → IsErrAnd r P → ((e : E) → P e → Q e) → IfErr r Q
err_so (Ok t) P Q h so = absurd h
err_so (Err e) P Q h so = so e h

pub fails : (words : List (List ℕ)) (a b : Option (List ℕ)) (e : Failure) → RunEnds words a b e → status_of e ≡ 2 → IsFailure words e
fails words a b e (inl h) two = h.0
fails words a b e (inr h) two = let one : status_of e ≡ 1 = ap status_of h.2 in absurd (omega (arith, one, two))

pub no_form : (words : List (List ℕ)) (e : Failure) → IsFailure words e → status_of e ≡ 2 → AreNoForm words
no_form words Usage h two = without_specs words h
no_form words (NoField w) h two = unnamed_form words w.now h
no_form words BadText h two = absurd (omega arith)
no_form words (Fault f) h two = absurd (omega arith)
