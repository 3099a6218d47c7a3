use Rattle.std.proofs.Common.{◌≡◌, sym, subst, ◌∙◌}
use Rattle.deku_bits.specs.Bits.{bits_of, facing}
use Rattle.deku_num.specs.Numbers.{number}
use Rattle.deku_num.proofs.FromBits.{cut_is, length-faced}
use Rattle.deku_num.proofs.Carrying.{unsigned_worth, unsigned_in_type}
use Rattle.deku_num.proofs.cutting.cut_unsigned.Goals as goal

pub returns-clause-cut : goal.returns-clause-cut
returns-clause-cut c =
    let e = c.in_ok-first.ensures in
    let l = c.args.layout in
    let n = c.in_ok-first.width in
    let bits = facing c.args.order (bits_of n c.in_ok-first.first) in
    let k = c.in_ok-number.number in
    let is = subst (λ o. k ≡ number l.endian o bits) (sym e.order) c.in_ok-number.ensures.number in
    cut_is c.args.number_type l c.args.order c.args.word c.args.room n c.in_ok-first.first _ e.some e.within e.wide e.order e.ok e.first (unsigned_worth c.args.number_type l bits k c.requires.unsigned is)

pub returns-clause-in_type : goal.returns-clause-in_type
returns-clause-in_type c =
    let e = c.in_ok-first.ensures in
    let l = c.args.layout in
    let n = c.in_ok-first.width in
    let bits = facing c.args.order (bits_of n c.in_ok-first.first) in
    let k = c.in_ok-number.number in
    let is = subst (λ o. k ≡ number l.endian o bits) (sym e.order) c.in_ok-number.ensures.number in
    unsigned_in_type c.args.number_type l bits k c.requires.unsigned e.ok (length-faced c.args.order n c.in_ok-first.first ∙ e.wide) (unsigned_worth c.args.number_type l bits k c.requires.unsigned is)
