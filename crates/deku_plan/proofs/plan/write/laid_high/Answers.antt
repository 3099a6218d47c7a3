use Rattle.deku_fields.proofs.Plain.{high_item}
use Rattle.deku_plan.proofs.plan.write.laid_high.Goals as goal

pub returns-in-Some-clause-writes : goal.returns-in-Some-clause-writes
returns-in-Some-clause-writes g c = λ laid.
    let w = c.in-Some.ensures in
    let h = c.requires.high w.high in
    high_item c.args.item.now c.args.step.width c.in-Some.number w.same h.unsigned h.big h.high c.requires.wide c.requires.allowed w.below (c.try_write_number.ensures.writes laid)
