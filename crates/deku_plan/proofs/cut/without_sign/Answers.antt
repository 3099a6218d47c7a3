use Rattle.std.proofs.Common.{◌≡◌, ◌∙◌, sym, rules}
use Rattle.deku_num.specs.declared.ctx.Endian.TheVariants.{Little, Big}
use Rattle.deku_plan.proofs.Unsigned.{big_is, turned_is, turned_below}
use Rattle.deku_plan.proofs.cut.without_sign.Goals as goal

pub returns-in-Little-clause-number : goal.returns-in-Little-clause-number
returns-in-Little-clause-number c =
    let is : c.args.endian ≡ Little = search rules in
    rw is (turned_is c.args.number c.args.width _ c.word_of_number.ensures)

pub returns-in-Little-clause-below : goal.returns-in-Little-clause-below
returns-in-Little-clause-below c = turned_below c.args.number c.args.width _ c.requires.below c.word_of_number.ensures

pub returns-in-Big-clause-number : goal.returns-in-Big-clause-number
returns-in-Big-clause-number c =
    let is : c.args.endian ≡ Big = search rules in
    rw is (λ s l e. e ∙ sym (big_is s))
