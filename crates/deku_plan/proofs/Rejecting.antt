-- Fields whose layouts are rejected.
use Rattle.std.proofs.Common.{◌≡◌, ◌<◌, All, List, length, get_or, subst, ⊎_elim, arith}
use Rattle.std.proofs.lemmas.Option.{slice_get_within, get_or_from_slice_get}
use Rattle.deku_bits.specs.declared.error.DekuError.{DekuError}
use Rattle.deku_bits.specs.declared.error.DekuError.TheVariants.{InvalidParam}
use Rattle.deku_num.specs.NumberCalls.{beyond, IsLayoutRefusal}
use Rattle.deku_fields.specs.declared.list.Field.{Field}
use Rattle.deku_fields.specs.Items.{number_type, IsAllowedField}
use Rattle.deku_plan.specs.Plans.{IsFirstRejected}

-- no layout is both rejected and not
rejected_not : (f : Field) (e : DekuError) → IsAllowedField f → IsLayoutRefusal InvalidParam (beyond f.layout.size) (number_type f.kind) f.layout e → ⊥
rejected_not f e ok why = ⊎_elim (λ wide. omega (arith, ok.within, wide.0)) (λ uneven. uneven.1 ok.even) why

-- if no layout is rejected, none is the first
pub first_not : (fs : List Field) (e : DekuError) → All IsAllowedField fs → IsFirstRejected fs e → ⊥
first_not fs e ok h =
    let inside : h.index < length fs = slice_get_within fs h.index h.holder h.there in
    let is : get_or fs h.index h.holder ≡ h.holder = get_or_from_slice_get fs h.index h.holder h.holder h.there in
    rejected_not h.holder e (subst (λ f. IsAllowedField f) is (ok h.index h.holder inside)) h.why
