use Rattle.deku_fields.proofs.Plain.{high_field}
use Rattle.deku_plan.proofs.plan.read.high_number.Goals as goal

pub returns-clause-reads : goal.returns-clause-reads
returns-clause-reads g c =
    let w = c.in_ok-width.ensures in
    high_field c.args.field.now c.in_ok-width.width c.in_ok-number.number w.high.unsigned w.high.big w.high.high w.wide c.requires.allowed c.in_ok-number.ensures.below c.in_ok-number.ensures.takes

pub returns-clause-fetched : goal.returns-clause-fetched
returns-clause-fetched g c = rw c.in_ok-width.ensures.wide at c.in_ok-number.ensures.fetched
