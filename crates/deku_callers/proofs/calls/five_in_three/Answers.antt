use Rattle.std.proofs.lemmas.Result.{err_from_is_err_and}
use Rattle.std.proofs.Common.{◌∷◌, [], List, Ok, Err, ap, ap₂, refl, subst, ◌∙◌, arith, rules}
use mir.Syntax.{w16}
use Rattle.std.proofs.lemmas.Int.{to_z-of_z}
use Rattle.deku_num.specs.declared.ctx.Size.TheVariants.{Whole}
use Rattle.deku_num.specs.Rows.{big_msb}
use Rattle.deku_fields.specs.declared.list.Item.{Item}
use Rattle.deku_fields.specs.declared.list.Kind.TheVariants.{I16}
use Rattle.deku_fields.specs.declared.list.Number.TheVariants.{Signed}
use Rattle.deku_fields.specs.Items.{fields_of}
use Rattle.deku_fields.specs.Promise.{LaidOut}
use Rattle.deku_fields.specs.Rows.{item}
use Rattle.deku_callers.specs.InThree.{ReadsInThree}
use Rattle.deku_callers.proofs.Five.{five, five_fit, five_aligned}
use Rattle.deku_callers.proofs.Returning.{few, whole}
use Rattle.deku_callers.proofs.calls.five_in_three.Goals as goal

pub returns : goal.returns
returns c =
    let a = c.args in
    let items : List Item = five a.version a.kind a.span a.flags a.heat in
    let all = five_fit c.field_law.ensures a.version a.kind a.span a.flags a.heat c.requires.version c.requires.kind c.requires.span c.requires.flags (search rules) in
    let aligned = five_aligned a.version a.kind a.span a.flags a.heat in
    let same = ap₂ (λ x xs. x ∷ xs) c.high-four.ensures (ap₂ (λ x xs. x ∷ xs) c.high-next.ensures (ap₂ (λ x xs. x ∷ xs) c.low-thirteen.ensures (ap₂ (λ x xs. x ∷ xs) c.low-three.ensures (ap (λ x. x ∷ []) (c.high-last.ensures ∙ ap (λ n. item I16 (big_msb Whole) n) c.signed.ensures ∙ ap (λ z. item I16 (big_msb Whole) (Signed z)) (to_z-of_z w16 c.args.heat c.ranges.heat)))))) in
    let laid = subst (λ is. LaidOut is (Ok c.in_ok-bytes.bytes)) same c.in_ok-bytes.ensures all aligned (few c.length_law.ensures items aligned (omega arith)) in
    let reads = subst (λ is. ReadsInThree (fields_of is) c.as_slice.result.now c.read_in_three.result) same c.read_in_three.ensures in
    reads items [] (whole items (fields_of items) c.in_ok-bytes.bytes.items c.as_slice.result.now refl c.as_slice.ensures.value all aligned laid) (omega arith)

pub returns-in_err-bytes : goal.returns-in_err-bytes
returns-in_err-bytes c =
    let a = c.args in
    let items : List Item = five a.version a.kind a.span a.flags a.heat in
    let all = five_fit c.field_law.ensures a.version a.kind a.span a.flags a.heat c.requires.version c.requires.kind c.requires.span c.requires.flags (search rules) in
    let aligned = five_aligned a.version a.kind a.span a.flags a.heat in
    let same = ap₂ (λ x xs. x ∷ xs) c.high-four.ensures (ap₂ (λ x xs. x ∷ xs) c.high-next.ensures (ap₂ (λ x xs. x ∷ xs) c.low-thirteen.ensures (ap₂ (λ x xs. x ∷ xs) c.low-three.ensures (ap (λ x. x ∷ []) (c.high-last.ensures ∙ ap (λ n. item I16 (big_msb Whole) n) c.signed.ensures ∙ ap (λ z. item I16 (big_msb Whole) (Signed z)) (to_z-of_z w16 c.args.heat c.ranges.heat)))))) in
    let k = err_from_is_err_and c.from_residual.result c.from_residual.ensures.1 in
    rw (k.1, k.2) (subst (λ is. LaidOut is (Err c.in_err-bytes.field-0.0)) same c.in_err-bytes.ensures all aligned (few c.length_law.ensures items aligned (omega arith)))
