use Rattle.std.proofs.lemmas.List.{get_or_read}
use Rattle.std.proofs.Common.{rules}
use Rattle.deku_fields.proofs.write.write_item.Goals as goal

pub returns-in-Some-clause-writes : goal.returns-in-Some-clause-writes
returns-in-Some-clause-writes g c = search rules

pub returns-in-None-clause-writes : goal.returns-in-None-clause-writes
returns-in-None-clause-writes g c =
    let same = c.laid_high.ensures.stays (search rules) in
    rw same at c.write_checked.ensures.writes

pub returns-in-None-clause-stopped : goal.returns-in-None-clause-stopped
returns-in-None-clause-stopped g c = search (rules, get_or_read)
