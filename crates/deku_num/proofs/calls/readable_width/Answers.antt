use Rattle.std.proofs.Common.{rules}
use Rattle.deku_num.proofs.calls.readable_width.Goals as goal

pub returns-in-Ok-clause-ok : goal.returns-in-Ok-clause-ok
returns-in-Ok-clause-ok c = search rules

pub returns-in-Ok-clause-err : goal.returns-in-Ok-clause-err
returns-in-Ok-clause-err c = search rules

pub returns-in-Err-TooWide-clause-ok : goal.returns-in-Err-TooWide-clause-ok
returns-in-Err-TooWide-clause-ok c = search rules

pub returns-in-Err-TooWide-clause-err : goal.returns-in-Err-TooWide-clause-err
returns-in-Err-TooWide-clause-err c = search rules

pub returns-in-Err-Uneven-clause-ok : goal.returns-in-Err-Uneven-clause-ok
returns-in-Err-Uneven-clause-ok c = search rules

pub returns-in-Err-Uneven-clause-err : goal.returns-in-Err-Uneven-clause-err
returns-in-Err-Uneven-clause-err c = search rules
