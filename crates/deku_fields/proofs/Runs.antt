-- Words of a command line, one after the other.
use Rattle.std.proofs.Common.{◌≡◌, ℕ, zero, suc, ◌+◌, ◌<◌, List, [], ◌∷◌, ◌++◌, length, take, get_or, refl, ap, sym, ◌∙◌, subst, arith, Option}
use Rattle.std.proofs.lemmas.List.{take_more, map-append, get_or-map}
use Rattle.std.specs.List.{AllZip}
use Rattle.std.specs.Prelude.{String, string_bytes}
use Rattle.deku_fields.specs.declared.program.Failure.{Failure}
use Rattle.deku_fields.specs.declared.program.Failure.TheVariants.{Usage, BadText, Fault}
use Rattle.deku_fields.specs.Runs.{status_of, message}
use Rattle.deku_program.specs.Texts.{words_of}
use Rattle.deku_program.specs.Outputs.{IsBegun}

zip_more : {A B : Type 0} (P : A → B → Type 0) (xs : List A) (ys : List B) (x : A) (y : B) → AllZip P xs ys → P x y → AllZip P (xs ++ x ∷ []) (ys ++ y ∷ [])
zip_more P [] [] x y z p = (p, tt)
zip_more P [] (b ∷ ys) x y z p = absurd z
zip_more P (a ∷ xs) [] x y z p = absurd z
zip_more P (a ∷ xs) (b ∷ ys) x y z p = (z.0, zip_more P xs ys x y z.1 p)

zip_some : {A B : Type 0} (P : A → B → Type 0) (xs : List A) (ys : List B) (i : ℕ) (d : A) → AllZip P xs ys → i < length xs → (y : B) × P (get_or xs i d) y
zip_some P [] ys i d z l = absurd (omega arith)
zip_some P (a ∷ xs) [] i d z l = absurd z
zip_some P (a ∷ xs) (b ∷ ys) zero d z l = (b, z.0)
zip_some P (a ∷ xs) (b ∷ ys) (suc i) d z l = zip_some P xs ys i d z.1 (omega arith)

-- one word more names one thing more
pub one_more : {S T : Type 0} (P : List ℕ → T → Type 0) (texts : List (String S)) (i : ℕ) (d : String S) (word : List ℕ) (ys : List T) (y : T)
    → i < length texts → word ≡ string_bytes (get_or texts i d) → AllZip P (words_of (take i texts)) ys → P word y → AllZip P (words_of (take (i + 1) texts)) (ys ++ y ∷ [])
one_more P texts i d word ys y l e z p =
    let front : words_of (take (i + 1) texts) ≡ words_of (take i texts) ++ string_bytes (get_or texts i d) ∷ [] =
    ap words_of (take_more texts i d l) ∙ map-append string_bytes (take i texts) (get_or texts i d ∷ []) in
    subst (λ ws. AllZip P ws (ys ++ y ∷ [])) (sym front) (zip_more P (words_of (take i texts)) ys (string_bytes (get_or texts i d)) y z (subst (λ w. P w y) e p))

-- where a word names nothing, the words name no list
pub no_list : {S T : Type 0} (P : List ℕ → T → Type 0) (texts : List (String S)) (i : ℕ) (d : String S) (word : List ℕ) → i < length texts → word ≡ string_bytes (get_or texts i d) → ((y : T) → P word y → ⊥)
    → (ys : List T) → AllZip P (words_of texts) ys → ⊥
no_list P texts i d word l e nothing ys z =
    let k = zip_some P (words_of texts) ys i (string_bytes d) z (omega (arith, length_words texts)) in
    nothing k.0 (subst (λ w. P w k.0) (get_or-map string_bytes texts i d (string_bytes d) l ∙ sym e) k.1)
  where
    length_words : {S : Type 0} (texts : List (String S)) → length (words_of texts) ≡ length texts
    length_words [] = omega arith
    length_words (t ∷ ts) = ap suc (length_words ts)

-- ---- statuses
-- the status is 2 for the usage alone
pub usage_is : (f : Failure) → status_of f ≡ 2 → f ≡ Usage
usage_is Usage e = refl
usage_is BadText e = absurd (omega (arith, e))
usage_is (Fault fault) e = absurd (omega (arith, e))

-- the usage is known where the status is 2
pub usage_told : (f : Failure) (a b : Option (List ℕ)) → status_of f ≡ 2 → IsBegun a b (message f) → IsBegun a b (message Usage)
usage_told f a b e told = subst (λ x. IsBegun a b (message x)) (usage_is f e) told
