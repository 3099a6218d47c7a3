use Rattle.std.proofs.Common.{rules}
use Rattle.deku_plan.proofs.plan.write.write_item.Goals as goal

pub returns-clause-writes : goal.returns-clause-writes
returns-clause-writes g c =
    let same = c.laid_high.ensures.stays (search rules) in
    rw same at c.write_checked.ensures.writes
