use Rattle.deku_fields.proofs.WorkedRows.{promise_rows}
use Rattle.deku_fields.proofs.laws.promise_rows.Goals as goal

pub returns : goal.returns
returns c = promise_rows
