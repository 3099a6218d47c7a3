-- The words of fields with names before them.
use Rattle.std.specs.Prelude.{◌≡◌, ◌≢◌, ◌⊎◌, ℕ, ◌<◌, List, [], ◌∷◌, ◌++◌, length, All, codes}
use Rattle.std.specs.Char.{IsAsciiAlphanumeric}
use Rattle.std.specs.List.{AllZip}
use Rattle.deku_fields.specs.declared.list.Field.{Field}
use Rattle.deku_fields.specs.Naming.{NamesField}

-- A letter, a digit, `_`, which is 95, or `-`, which is 45.
abbrev pub IsNameByte : ℕ → Type 0
IsNameByte c = IsAsciiAlphanumeric c ⊎ (c ≡ 95) ⊎ (c ≡ 45)

-- A name: at least one of such bytes.
abbrev pub IsName : List ℕ → Type 0
IsName text = (0 < length text) × All IsNameByte text

-- A field's word, alone or after a name and a colon.
abbrev pub IsNamed : List ℕ → List ℕ → List ℕ → Field → Type 0
IsNamed word name spec f = (((name ≡ []) × (word ≡ spec)) ⊎ (IsName name × (word ≡ name ++ (codes ":" ++ spec)))) × NamesField spec f

-- A word names a field, with a name or without one.
abbrev pub Names : List ℕ → Field → Type 0
Names word f = (name : List ℕ) × (spec : List ℕ) × IsNamed word name spec f

-- The words of the fields: after `--svg`, after `--bytes` and the bytes, or all words.
abbrev pub HasSpecs : List (List ℕ) → List (List ℕ) → Type 0
HasSpecs [] specs = ⊥
HasSpecs (word ∷ words) specs = ((word ≡ codes "--svg") × (specs ≡ words))
    ⊎ ((word ≡ codes "--bytes") × (text : List ℕ) × (words ≡ text ∷ specs))
    ⊎ ((word ≢ codes "--svg") × (word ≢ codes "--bytes") × (specs ≡ word ∷ words))

-- The words name fields, and at least one.
pub record AreNamed (words : List (List ℕ)) (fields : List Field) : Type 0 where
  pub specs : List (List ℕ)
  pub behind : HasSpecs words specs
  pub some : 0 < length specs
  pub named : AllZip Names specs fields

-- The words name no fields.
abbrev pub AreNoForm : List (List ℕ) → Type 0
AreNoForm words = (fields : List Field) → AreNamed words fields → ⊥

-- The words name fields, one each.
abbrev pub NameFields : List (List ℕ) → Type 0
NameFields words = (fields : List Field) × AllZip Names words fields

-- The word is the first of the words that names no field.
pub record IsUnnamed (words : List (List ℕ)) (word : List ℕ) : Type 0 where
  pub before : List (List ℕ)
  pub after : List (List ℕ)
  pub is : words ≡ before ++ word ∷ after
  pub named : NameFields before
  pub none : (f : Field) → Names word f → ⊥

-- The word is the first of the words of the fields that names no field.
abbrev pub HasUnnamed : List (List ℕ) → List ℕ → Type 0
HasUnnamed words word = (specs : List (List ℕ)) × HasSpecs words specs × IsUnnamed specs word

-- There are no words of fields.
abbrev pub HaveNoSpecs : List (List ℕ) → Type 0
HaveNoSpecs words = (specs : List (List ℕ)) → HasSpecs words specs → specs ≡ []
