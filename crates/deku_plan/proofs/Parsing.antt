-- Words that name fields, one after the other.
use Rattle.std.proofs.Common.{◌≡◌, ◌⊎◌, ℕ, ◌+◌, ◌<◌, ◌≤◌, List, [], ◌∷◌, ◌++◌, length, take, get_or, All, sym, subst, inl, inr, ⊎_elim}
use Rattle.std.specs.Borrow.{Bor}
use Rattle.std.specs.declared.io.ErrorKind.TheVariants.{OutOfMemory}
use Rattle.std.proofs.lemmas.List.{take_more, take_all}
use Rattle.std.proofs.lemmas.List.Elements.{All-nil, All-cons, All-append}
use Rattle.std.proofs.lemmas.Option.{slice_get-get_or}
use Rattle.deku_bits.specs.declared.error.DekuError.{DekuError}
use Rattle.deku_bits.specs.declared.error.DekuError.TheVariants.{InvalidParam, Io}
use Rattle.deku_num.specs.NumberCalls.{beyond, IsLayoutRefusal}
use Rattle.deku_fields.specs.declared.list.Field.{Field}
use Rattle.deku_fields.specs.Items.{number_type, IsAllowedField}
use Rattle.deku_fields.specs.Naming.{NamesField}
use Rattle.deku_plan.specs.declared.plan.WrongWords.TheVariants.{NoField, Rejected, Fault}
use Rattle.deku_plan.specs.Plans.{IsFirstRejected, AreTooMany}
use Rattle.deku_plan.specs.Words.{AreNamed, AreWrong}
use Rattle.deku_plan.proofs.Rejecting.{first_not}

named_push : (words : List (Bor (List ℕ))) (fs : List Field) (word : Bor (List ℕ)) (f : Field) → AreNamed words fs → NamesField word.now f → AreNamed (words ++ word ∷ []) (fs ++ f ∷ [])
named_push [] [] word f h k = (k, tt)
named_push [] (g ∷ fs) word f h k = absurd h
named_push (w ∷ words) [] word f h k = absurd h
named_push (w ∷ words) (g ∷ fs) word f h k = (h.0, named_push words fs word f h.1 k)

-- the words before place i name these fields, whose layouts are not rejected
abbrev pub AreGood : List (Bor (List ℕ)) → ℕ → List Field → Type 0
AreGood words i fs = AreNamed (take i words) fs × All IsAllowedField fs

pub good_none : (words : List (Bor (List ℕ))) (fs : List Field) → fs ≡ [] → AreGood words 0 fs
good_none words fs e = subst (AreGood words 0) (sym e) (tt, All-nil IsAllowedField)

pub good_more : (words : List (Bor (List ℕ))) (i : ℕ) (fs gs : List Field) (d : Bor (List ℕ)) (f : Field) → i < length words → gs ≡ fs ++ f ∷ [] → AreGood words i fs → NamesField (get_or words i d).now f → IsAllowedField f
    → AreGood words (i + 1) gs
good_more words i fs gs d f lt is h named ok =
    subst (AreGood words (i + 1)) (sym is) (
      subst (λ x. AreNamed x (fs ++ f ∷ [])) (sym (take_more words i d lt)) (named_push (take i words) fs (get_or words i d) f h.0 named),
      All-append IsAllowedField fs (f ∷ []) h.1 (All-cons IsAllowedField f [] ok (All-nil IsAllowedField)),
    )

-- ---- words that make no plan
pub no_field_at : (words : List (Bor (List ℕ))) (i : ℕ) (fs : List Field) (d : Bor (List ℕ)) → i < length words → AreGood words i fs → ((f : Field) → NamesField (get_or words i d).now f → ⊥) → AreWrong words (NoField i)
no_field_at words i fs d lt h none = ((fs, h.0, h.1), (get_or words i d, slice_get-get_or words i d lt, none))

pub rejected_at : (words : List (Bor (List ℕ))) (i : ℕ) (fs : List Field) (d : Bor (List ℕ)) (f : Field) (e : DekuError) → i < length words → AreGood words i fs → NamesField (get_or words i d).now f
    → IsLayoutRefusal InvalidParam (beyond f.layout.size) (number_type f.kind) f.layout e → AreWrong words (Rejected i e)
rejected_at words i fs d f e lt h named why = ((fs, h.0, h.1), (get_or words i d, slice_get-get_or words i d lt, (f, named, why)))

pub fault_of : (words : List (Bor (List ℕ))) (i : ℕ) (fs : List Field) (e : DekuError) → length words ≤ i → AreGood words i fs → IsFirstRejected fs e ⊎ AreTooMany fs e ⊎ (e ≡ Io OutOfMemory) → AreWrong words (Fault e)
fault_of words i fs e le h why =
    let named : AreNamed words fs = subst (λ x. AreNamed x fs) (take_all i words le) h.0 in
    ⊎_elim (λ (first : IsFirstRejected fs e). absurd (first_not fs e h.1 first))
    (λ (other : AreTooMany fs e ⊎ (e ≡ Io OutOfMemory)). ⊎_elim (λ (many : AreTooMany fs e). inr (fs, named, many)) (λ (none : e ≡ Io OutOfMemory). inl none) other) why
