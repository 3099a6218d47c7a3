-- A text that is given part by part.
use Rattle.std.proofs.Common.{◌≡◌, ℕ, zero, suc, ◌+◌, ◌<◌, List, [], ◌∷◌, ◌++◌, length, take, drop, get_or, Option, Some, None, Result, Ok, Err, OnOk, OnErr, Bor, refl, sym, ap, ◌∙◌, subst, arith, append-nil, append_assoc, add-one}
use Rattle.std.proofs.lemmas.List.{take-append-drop}
use Rattle.std.specs.Io.KnownBytes.{Appends, Keeps}
use Rattle.deku_program.specs.Outputs.{IsGivenBut, IsBegun, IsCutShort}
use Rattle.deku_program.specs.Told.{joined_text}

-- one part and then another
two_parts : (a b c : Option (List ℕ)) (x y : List ℕ) → Appends a b x → Appends b c y → Appends a c (x ++ y)
two_parts None b c x y p q = tt
two_parts (Some u) None c x y p q = absurd p
two_parts (Some u) (Some v) None x y p q = absurd q
two_parts (Some u) (Some v) (Some w) x y p q = q ∙ ap (λ z. z ++ y) p ∙ append_assoc u x y

-- nothing more
no_more : (a b c : Option (List ℕ)) (x : List ℕ) → Appends a b x → Keeps b c → Appends a c x
no_more None b c x p q = tt
no_more (Some u) None c x p q = absurd p
no_more (Some u) (Some v) None x p q = absurd q
no_more (Some u) (Some v) (Some w) x p q = q ∙ p

nothing : (a : Option (List ℕ)) → Appends a a []
nothing None = tt
nothing (Some u) = sym (append-nil u)

-- n bytes more are given
pub more_given : (a b c : Option (List ℕ)) (text rest : List ℕ) (n : ℕ) → IsGivenBut rest a b text → Appends b c (take n rest) → IsGivenBut (drop n rest) a c text
more_given a b c text rest n h p = record {
  front = h.front ++ take n rest;
  cut = h.cut ∙ ap (λ z. h.front ++ z) (sym (take-append-drop n rest)) ∙ sym (append_assoc h.front (take n rest) (drop n rest));
  given = two_parts a b c h.front (take n rest) h.given p;
}

-- a text that was given is begun
pub begun_whole : (a b : Option (List ℕ)) (text : List ℕ) → Appends a b text → IsBegun a b text
begun_whole a b text p = ([], record { front = text; cut = sym (append-nil text); given = p })

pub begun_short : (a b : Option (List ℕ)) (text : List ℕ) → IsCutShort a b text → IsBegun a b text
begun_short a b text h = (h.0, h.2)

-- a part was given, and then a text was begun that goes on
pub more_begun : (a b c : Option (List ℕ)) (x y z : List ℕ) → Appends a b x → IsBegun b c y → IsBegun a c (x ++ (y ++ z))
more_begun a b c x y z p h =
    let cut : x ++ (y ++ z) ≡ (x ++ h.1.front) ++ (h.0 ++ z) = ap (λ t. x ++ (t ++ z)) h.1.cut ∙ ap (λ t. x ++ t) (append_assoc h.1.front h.0 z) ∙ sym (append_assoc x h.1.front (h.0 ++ z)) in
    (h.0 ++ z, record { front = x ++ h.1.front; cut = cut; given = two_parts a b c x h.1.front p h.1.given })

-- by what a call says where it is done and where it fails, its text is begun
pub begun_either : {T E : Type 0} (r : Result T E) (a b : Option (List ℕ)) (text : List ℕ) → OnOk r (Appends a b text) → OnErr r (IsCutShort a b text) → IsBegun a b text
begun_either (Ok t) a b text p h = begun_whole a b text p
begun_either (Err e) a b text p h = begun_short a b text h

-- ---- texts one after the other
split_at : (parts : List (Bor (List ℕ))) (i : ℕ) (d : Bor (List ℕ)) → i < length parts → joined_text parts ≡ joined_text (take i parts) ++ ((get_or parts i d).now ++ joined_text (drop (suc i) parts))
split_at [] i d l = absurd (omega arith)
split_at (p ∷ parts) zero d l = refl
split_at (p ∷ parts) (suc i) d l = ap (λ t. p.now ++ t) (split_at parts i d (omega arith)) ∙ sym (append_assoc p.now (joined_text (take i parts)) ((get_or parts i d).now ++ joined_text (drop (suc i) parts)))

more_at : (parts : List (Bor (List ℕ))) (i : ℕ) (d : Bor (List ℕ)) → i < length parts → joined_text (take (suc i) parts) ≡ joined_text (take i parts) ++ (get_or parts i d).now
more_at [] i d l = absurd (omega arith)
more_at (p ∷ parts) zero d l = append-nil p.now
more_at (p ∷ parts) (suc i) d l = ap (λ t. p.now ++ t) (more_at parts i d (omega arith)) ∙ sym (append_assoc p.now (joined_text (take i parts)) ((get_or parts i d).now))

-- the first i texts were given, and the next one was begun
pub begun_part : (a b c : Option (List ℕ)) (parts : List (Bor (List ℕ))) (i : ℕ) (d : Bor (List ℕ)) (part : List ℕ) → i < length parts → part ≡ (get_or parts i d).now
    → Appends a b (joined_text (take i parts)) → IsBegun b c part → IsBegun a c (joined_text parts)
begun_part a b c parts i d part l e p h = subst (IsBegun a c) (sym (split_at parts i d l ∙ ap (λ t. joined_text (take i parts) ++ (t ++ joined_text (drop (suc i) parts))) (sym e))) (more_begun a b c (joined_text (take i parts)) part (joined_text (drop (suc i) parts)) p h)

-- the first i texts were given, and then the next one
pub given_part : (a b c : Option (List ℕ)) (parts : List (Bor (List ℕ))) (i : ℕ) (d : Bor (List ℕ)) (part : List ℕ) → i < length parts → part ≡ (get_or parts i d).now
    → Appends a b (joined_text (take i parts)) → Appends b c part → Appends a c (joined_text (take (i + 1) parts))
given_part a b c parts i d part l e p q =
    let whole : joined_text (take (i + 1) parts) ≡ joined_text (take i parts) ++ part = ap (λ n. joined_text (take n parts)) (add-one i) ∙ more_at parts i d l ∙ ap (λ t. joined_text (take i parts) ++ t) (sym e) in
    subst (Appends a c) (sym whole) (two_parts a b c (joined_text (take i parts)) part p q)

-- what r says of texts that are the same
pub given_same : {T E : Type 0} (r : Result T E) (a b : Option (List ℕ)) (x y : List ℕ) → x ≡ y → OnOk r (Appends a b x) → OnOk r (Appends a b y)
given_same r a b x y e p = subst (λ t. OnOk r (Appends a b t)) e p

-- ---- a line of three texts and its end
whole : (x y z end : List ℕ) → x ++ (y ++ (z ++ end)) ≡ x ++ (y ++ z) ++ end
whole x y z end = ap (λ t. x ++ t) (sym (append_assoc y z end)) ∙ sym (append_assoc x (y ++ z) end)

pub begun_first : (a b : Option (List ℕ)) (x y z end : List ℕ) → IsBegun a b x → IsBegun a b (x ++ (y ++ z) ++ end)
begun_first a b x y z end h = subst (IsBegun a b) (whole x y z end) (more_begun a a b [] x (y ++ (z ++ end)) (nothing a) h)

pub begun_second : (a b c : Option (List ℕ)) (x y z end : List ℕ) → Appends a b x → IsBegun b c y → IsBegun a c (x ++ (y ++ z) ++ end)
begun_second a b c x y z end p h = subst (IsBegun a c) (whole x y z end) (more_begun a b c x y (z ++ end) p h)

pub begun_third : (a b c d : Option (List ℕ)) (x y z end : List ℕ) → Appends a b x → Appends b c y → IsBegun c d z → IsBegun a d (x ++ (y ++ z) ++ end)
begun_third a b c d x y z end p q h = subst (IsBegun a d) (append_assoc x y (z ++ end) ∙ whole x y z end) (more_begun a c d (x ++ y) z end (two_parts a b c x y p q) h)

pub given_three : (a b c d : Option (List ℕ)) (x y z : List ℕ) → Appends a b x → Appends b c y → Appends c d z → Appends a d (x ++ (y ++ z))
given_three a b c d x y z p q r = two_parts a b d x (y ++ z) p (two_parts b c d y z q r)

-- a text was given, and then what r says of its end
pub begun_end : {T E : Type 0} (r : Result T E) (a b c : Option (List ℕ)) (x end : List ℕ) → Appends a b x → OnOk r (Appends b c end) → OnErr r (IsCutShort b c end) → IsBegun a c (x ++ end)
begun_end (Ok t) a b c x end p q h = begun_whole a c (x ++ end) (two_parts a b c x end p q)
begun_end (Err e) a b c x end p q h = subst (λ t. IsBegun a c (x ++ t)) (append-nil end) (more_begun a b c x end [] p (begun_short b c end h))

pub given_end : {T E : Type 0} (r : Result T E) (a b c : Option (List ℕ)) (x end : List ℕ) → Appends a b x → OnOk r (Appends b c end) → OnOk r (Appends a c (x ++ end))
given_end (Ok t) a b c x end p q = two_parts a b c x end p q
given_end (Err e) a b c x end p q = q
