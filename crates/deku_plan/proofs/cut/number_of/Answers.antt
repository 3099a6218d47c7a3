use Rattle.std.proofs.Common.{sym, ◌∙◌, rules}
use Rattle.std.proofs.lemmas.Int.{to_z-of_z}
use mir.Syntax.{w128}
use mir.Val.{SFits}
use Rattle.deku_plan.proofs.Worth.{worth_plain, worth_signed}
use Rattle.deku_plan.proofs.cut.number_of.Goals as goal

pub returns-then-is_signed : goal.returns-then-is_signed
returns-then-is_signed c = λ s l e.
    let fits : SFits w128 c.sign_extend.result = search rules in
    rw (to_z-of_z w128 c.sign_extend.result fits)
    (worth_signed c.args.field.now s c.without_sign-number.result c.args.width c.sign_extend.result (sym c.is_signed.ensures ∙ c.if-is_signed.true) c.requires.high c.requires.wide l
    (c.without_sign-number.ensures.number s l e) c.sign_extend.ensures)

pub returns-else-is_signed : goal.returns-else-is_signed
returns-else-is_signed c = λ s l e.
    worth_plain c.args.field.now s c.without_sign-number.result c.args.width (sym c.is_signed.ensures ∙ c.if-is_signed.false) c.requires.high c.requires.wide l
    (c.without_sign-number.ensures.number s l e)
