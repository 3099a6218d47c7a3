use Rattle.std.proofs.Common.{rules, ◌≡◌, sym, subst, ◌∙◌}
use mir.Syntax.{w128}
use mir.Val.{SFits}
use Rattle.std.proofs.lemmas.Int.{to_z-of_z}
use Rattle.deku_bits.specs.Bits.{bits_of, facing}
use Rattle.deku_num.specs.Numbers.{number}
use Rattle.deku_num.proofs.FromBits.{cut_is, length-faced}
use Rattle.deku_num.proofs.Carrying.{signed_worth, signed_in_type}
use Rattle.deku_num.proofs.cutting.cut_signed.Goals as goal

pub returns-clause-cut : goal.returns-clause-cut
returns-clause-cut c =
    let e = c.in_ok-first.ensures in
    let l = c.args.layout in
    let n = c.in_ok-first.width in
    let bits = facing c.args.order (bits_of n c.in_ok-first.first) in
    let k = c.in_ok-number.number in
    let is = subst (λ o. k ≡ number l.endian o bits) (sym e.order) c.in_ok-number.ensures.number in
    let fits : SFits w128 c.sign_extend.result = search rules in
    cut_is c.args.number_type l c.args.order c.args.word c.args.room n c.in_ok-first.first _ e.some e.within e.wide e.order e.ok e.first
    (to_z-of_z w128 c.sign_extend.result fits ∙ c.sign_extend.ensures ∙ signed_worth c.args.number_type l bits n k c.requires.signed (length-faced c.args.order n c.in_ok-first.first) is)

pub returns-clause-in_type : goal.returns-clause-in_type
returns-clause-in_type c =
    let e = c.in_ok-first.ensures in
    let l = c.args.layout in
    let n = c.in_ok-first.width in
    let bits = facing c.args.order (bits_of n c.in_ok-first.first) in
    let k = c.in_ok-number.number in
    let is = subst (λ o. k ≡ number l.endian o bits) (sym e.order) c.in_ok-number.ensures.number in
    let long = length-faced c.args.order n c.in_ok-first.first in
    let fits : SFits w128 c.sign_extend.result = search rules in
    signed_in_type c.args.number_type l bits _ c.requires.signed e.ok (long ∙ e.wide)
    (to_z-of_z w128 c.sign_extend.result fits ∙ c.sign_extend.ensures ∙ signed_worth c.args.number_type l bits n k c.requires.signed long is)
