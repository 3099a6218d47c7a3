-- Names have no colon, so a word is cut at its first one.
use Rattle.std.proofs.Common.{ℕ, ◌<◌, ◌≡◌, ◌≢◌, List, ◌∷◌, ◌++◌, length, get_or, sym, subst, inl, inr, arith}
use Rattle.std.proofs.lemmas.List.Elements.{All-get_or}
use Rattle.deku_fields.specs.declared.list.Field.{Field}
use Rattle.deku_fields.specs.Naming.{NamesField}
use Rattle.deku_picture.specs.Names.{IsNameByte, IsName, IsNamed}

no_colon : (c : ℕ) → IsNameByte c → c ≢ 58
no_colon c (inl (inl (inl h))) = λ e. absurd (omega (arith, h))
no_colon c (inl (inl (inr h))) = λ e. absurd (omega (arith, h))
no_colon c (inl (inr h)) = λ e. absurd (omega (arith, h))
no_colon c (inr (inl h)) = λ e. absurd (omega (arith, h))
no_colon c (inr (inr h)) = λ e. absurd (omega (arith, h))

-- no byte of a name is a colon
pub colon_free : (name : List ℕ) → IsName name → (i : ℕ) → i < length name → get_or name i 0 ≢ 58
colon_free name h i l = no_colon (get_or name i 0) (All-get_or IsNameByte name i 0 l h.1)

-- a name, a colon and a field's word
abbrev pub HasColon : List ℕ → List ℕ → List ℕ → Field → Type 0
HasColon word name spec f = IsName name × (word ≡ name ++ (58 ∷ spec)) × NamesField spec f

-- a word that is no field's, and has none after a name and a colon, is no field's with a name
pub unnamed : (word : List ℕ) → ((f : Field) → NamesField word f → ⊥) → ((name spec : List ℕ) (f : Field) → HasColon word name spec f → ⊥)
    → (name spec : List ℕ) (f : Field) → IsNamed word name spec f → ⊥
unnamed word bare named name spec f (inl p, n) = bare f (subst (λ w. NamesField w f) (sym (p.1)) n)
unnamed word bare named name spec f (inr p, n) = named name spec f (p.0, p.1, n)
