-- A word is cut at its first comma, and in front of it is the name of one kind.
use Rattle.std.proofs.Common.{◌≡◌, ◌≢◌, ℕ, zero, suc, ◌+◌, ◌*◌, ◌<◌, ◌≤◌, Bool, true, false, cond, eqb, nat_eq, get_or, List, [], ◌∷◌, ◌++◌, length, take, drop, codes, refl, ap, sym, ◌∙◌, subst, arith, Option, Some, None, MatchOption}
use Rattle.std.proofs.lemmas.Bool.{ne_eqb}
use Rattle.std.proofs.lemmas.List.{take-append-drop, drop_all}
use Rattle.std.specs.Prelude.{unwrap_or}
use Rattle.deku_fields.specs.declared.list.Kind.{Kind}
use Rattle.deku_fields.specs.declared.list.Kind.TheVariants.{U8, U16, U32, U64, U128, Usize, I8, I16, I32, I64, I128, Isize}
use Rattle.deku_fields.specs.Naming.{kind_name, BeginsOption}

-- ---- kinds
-- a number for each text
abbrev text_number : List ℕ → ℕ
text_number [] = 0
text_number (c ∷ cs) = c + 256 * text_number cs

-- the kind of a name
abbrev kind_of : List ℕ → Kind
kind_of t =
    let is : List ℕ → Bool = λ name. nat_eq (text_number t) (text_number name) in
    cond (is (codes "u8")) U8 (cond (is (codes "u16")) U16 (cond (is (codes "u32")) U32 (cond (is (codes "u64")) U64
    (cond (is (codes "u128")) U128 (cond (is (codes "usize")) Usize (cond (is (codes "i8")) I8 (cond (is (codes "i16")) I16
    (cond (is (codes "i32")) I32 (cond (is (codes "i64")) I64 (cond (is (codes "i128")) I128 Isize))))))))))

kind_known : (k : Kind) → kind_of (kind_name k) ≡ k
kind_known U8 = refl
kind_known U16 = refl
kind_known U32 = refl
kind_known U64 = refl
kind_known U128 = refl
kind_known Usize = refl
kind_known I8 = refl
kind_known I16 = refl
kind_known I32 = refl
kind_known I64 = refl
kind_known I128 = refl
kind_known Isize = refl

kind_one : (k l : Kind) → kind_name k ≡ kind_name l → k ≡ l
kind_one k l e = sym (kind_known k) ∙ ap kind_of e ∙ kind_known l

-- ---- the first comma
-- no byte of the text is c
abbrev pub free : ℕ → List ℕ → Bool
free c [] = true
free c (x ∷ xs) = cond (eqb x c) false (free c xs)

abbrev no_comma : List ℕ → Bool
no_comma text = free 44 text

kind_plain : (k : Kind) → no_comma (kind_name k) ≡ true
kind_plain U8 = refl
kind_plain U16 = refl
kind_plain U32 = refl
kind_plain U64 = refl
kind_plain U128 = refl
kind_plain Usize = refl
kind_plain I8 = refl
kind_plain I16 = refl
kind_plain I32 = refl
kind_plain I64 = refl
kind_plain I128 = refl
kind_plain Isize = refl

no_more : (c : ℕ) (cs : List ℕ) → no_comma (c ∷ cs) ≡ true → no_comma cs ≡ true
no_more c cs = go (eqb c 44)
  where
    go : (b : Bool) → cond b false (no_comma cs) ≡ true → no_comma cs ≡ true
    go true e = absurd (cc)
    go false e = e

head_plain : (c : ℕ) (cs ds : List ℕ) → no_comma (c ∷ cs) ≡ true → BeginsOption (c ∷ ds) → ⊥
head_plain c cs ds plain begins = let f : c ≡ 44 = cc in let g : cond (eqb 44 44) false (no_comma cs) ≡ true = subst (λ x. cond (eqb x 44) false (no_comma cs) ≡ true) f plain in absurd (cc)

-- a text is cut at its first comma in one way
cut_one : (xs us ys vs : List ℕ) → no_comma xs ≡ true → no_comma us ≡ true → BeginsOption ys → BeginsOption vs → xs ++ ys ≡ us ++ vs → (xs ≡ us) × (ys ≡ vs)
cut_one [] [] ys vs p q b c e = (refl, e)
cut_one [] (u ∷ us) [] vs p q b c e = absurd (cc)
cut_one [] (u ∷ us) (y ∷ ys) vs p q b c e = let f : y ≡ u = cc in absurd (head_plain u us ys q (subst (λ x. BeginsOption (x ∷ ys)) f b))
cut_one (x ∷ xs) [] ys [] p q b c e = absurd (cc)
cut_one (x ∷ xs) [] ys (v ∷ vs) p q b c e = let f : v ≡ x = cc in absurd (head_plain x xs vs p (subst (λ w. BeginsOption (w ∷ vs)) f c))
cut_one (x ∷ xs) (u ∷ us) ys vs p q b c e =
    let k = cut_one xs us ys vs (no_more x xs p) (no_more u us q) b c (let t : xs ++ ys ≡ us ++ vs = cc in t) in
    let h : x ≡ u = cc in
    let r : xs ≡ us = k.0 in
    (rw (h, r) refl, k.1)

pub kind_cut : (k l : Kind) (xs ys : List ℕ) → kind_name k ++ xs ≡ kind_name l ++ ys → BeginsOption xs → BeginsOption ys → (k ≡ l) × (xs ≡ ys)
kind_cut k l xs ys e b c =
    let p = cut_one (kind_name k) (kind_name l) xs ys (kind_plain k) (kind_plain l) b c e in
    (kind_one k l p.0, p.1)

-- ---- where it is
front_plain : (word : List ℕ) (n : ℕ) → n ≤ length word → ((i : ℕ) → i < n → get_or word i 0 ≢ 44) → no_comma (take n word) ≡ true
front_plain word zero l h = refl
front_plain [] (suc n) l h = absurd (omega arith)
front_plain (c ∷ cs) (suc n) l h =
    let f : eqb c 44 ≡ false = ne_eqb c 44 (h 0 (omega arith)) in
    rw f (front_plain cs n (omega arith) (λ i m. h (suc i) (omega arith)))

back_begins : (word : List ℕ) (n : ℕ) → n < length word → get_or word n 0 ≡ 44 → BeginsOption (drop n word)
back_begins [] n l e = absurd (omega arith)
back_begins (c ∷ cs) zero l e = rw e refl
back_begins (c ∷ cs) (suc n) l e = back_begins cs n (omega arith) e

-- the text before the first comma, or all of it
first_cut : (word : List ℕ) (r : Option ℕ) (n : ℕ)
    → MatchOption r ((i : ℕ) → i < length word → get_or word i 0 ≢ 44) (λ k. (k < length word) × (get_or word k 0 ≡ 44) × ((i : ℕ) → i < k → get_or word i 0 ≢ 44))
    → n ≡ unwrap_or r (length word) → (no_comma (take n word) ≡ true) × BeginsOption (drop n word)
first_cut word None n found e =
    let none : drop n word ≡ [] = drop_all n word (omega arith) in
    (front_plain word n (omega arith) (λ i l. found i (omega arith)), subst BeginsOption (sym none) tt)
first_cut word (Some k) n found e =
    (subst (λ m. no_comma (take m word) ≡ true) (sym e) (front_plain word k (omega (arith, found.0)) found.2), subst (λ m. BeginsOption (drop m word)) (sym e) (back_begins word k found.0 found.1))

-- a word whose front is no kind's name has no kind in front
pub no_kind : (word name : List ℕ) (r : Option ℕ) (n : ℕ)
    → MatchOption r ((i : ℕ) → i < length word → get_or word i 0 ≢ 44) (λ k. (k < length word) × (get_or word k 0 ≡ 44) × ((i : ℕ) → i < k → get_or word i 0 ≢ 44))
    → n ≡ unwrap_or r (length word) → name ≡ take n word → ((k : Kind) → name ≡ kind_name k → ⊥)
    → (k : Kind) (rest : List ℕ) → word ≡ kind_name k ++ rest → BeginsOption rest → ⊥
no_kind word name r n found e front none k rest starts begins =
    let c = first_cut word r n found e in
    let p = cut_one (take n word) (kind_name k) (drop n word) rest c.0 (kind_plain k) c.1 begins (take-append-drop n word ∙ starts) in
    none k (front ∙ p.0)
