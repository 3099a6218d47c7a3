use Rattle.std.proofs.Common.{◌≡◌, sym, ap, ◌∙◌}
use Rattle.deku_fields.specs.declared.list.Number.TheVariants.{Unsigned}
use Rattle.deku_fields.proofs.Plain.{high_item}
use Rattle.deku_c.specs.Codes.{item_in, number_in, whole}
use Rattle.deku_c.proofs.write.laid_high.Goals as goal

pub returns-in-Some-clause-writes : goal.returns-in-Some-clause-writes
returns-in-Some-clause-writes g c = λ laid.
    let w = c.in-Some.ensures in
    let item = item_in c.args.code c.args.number in
    let plain : item.value ≡ Unsigned c.in-Some.low = ap (λ b. number_in b (whole c.args.number)) w.high.unsigned ∙ ap Unsigned (sym w.same) in
    high_item item c.in-Some.width c.in-Some.low plain w.high.unsigned w.high.big w.high.high (sym w.wide) w.allowed w.below (c.try_write_number.ensures.writes laid)
