use Rattle.std.proofs.Common.{rules}
use Rattle.deku_fields.proofs.cut.cut_to_bytes.Goals as goal

pub returns-in-Err-clause-some : goal.returns-in-Err-clause-some
returns-in-Err-clause-some c = search rules

pub returns-in-Err-clause-cut : goal.returns-in-Err-clause-cut
returns-in-Err-clause-cut c = search rules
