use Rattle.deku_fields.proofs.Plain.{high_item}
use Rattle.deku_fields.proofs.write.laid_high.Goals as goal

pub returns-in-Some-clause-writes : goal.returns-in-Some-clause-writes
returns-in-Some-clause-writes g c = λ laid.
    let w = c.in-Some.ensures in
    high_item c.args.item.now c.in-Some.width c.in-Some.number w.value w.unsigned w.big w.high w.wide w.allowed w.below (c.try_write_number.ensures.writes laid)
