use Rattle.std.proofs.Common.{◌∷◌, [], ap, ap₂, subst, ◌∙◌, arith, rules}
use mir.Syntax.{w16}
use Rattle.std.proofs.lemmas.Int.{to_z-of_z}
use Rattle.deku_num.specs.declared.ctx.Size.TheVariants.{Whole}
use Rattle.deku_num.specs.Rows.{big_msb}
use Rattle.deku_fields.specs.declared.list.Kind.TheVariants.{I16}
use Rattle.deku_fields.specs.declared.list.Number.TheVariants.{Signed}
use Rattle.deku_fields.specs.Rows.{item}
use Rattle.deku_callers.specs.Returning.{ComesBack}
use Rattle.deku_callers.proofs.Five.{five_fit, five_aligned}
use Rattle.deku_callers.proofs.list.five_there_and_back.Goals as goal

pub returns : goal.returns
returns c =
    let a = c.args in
    let all = five_fit c.field_law.ensures a.version a.kind a.span a.flags a.heat c.requires.version c.requires.kind c.requires.span c.requires.flags (search rules) in
    let same = ap₂ (λ x xs. x ∷ xs) c.high.ensures (ap₂ (λ x xs. x ∷ xs) c.high-2.ensures (ap₂ (λ x xs. x ∷ xs) c.low.ensures (ap₂ (λ x xs. x ∷ xs) c.low-2.ensures (ap (λ x. x ∷ []) (c.high-3.ensures ∙ ap (λ n. item I16 (big_msb Whole) n) c.signed.ensures ∙ ap (λ z. item I16 (big_msb Whole) (Signed z)) (to_z-of_z w16 c.args.heat c.ranges.heat)))))) in
    subst (λ items. ComesBack items c.there_and_back.result) same c.there_and_back.ensures all (five_aligned a.version a.kind a.span a.flags a.heat) (omega arith)
