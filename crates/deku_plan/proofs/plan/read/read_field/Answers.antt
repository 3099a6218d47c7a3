use Rattle.deku_plan.proofs.plan.read.read_field.Goals as goal

pub returns-in-None-clause-reads : goal.returns-in-None-clause-reads
returns-in-None-clause-reads g c = rw c.in-None.ensures.stays at c.read_checked.ensures.reads
