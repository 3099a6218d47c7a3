use Rattle.deku_num.proofs.WorkedRows.{record_rows}
use Rattle.deku_num.proofs.laws.record_rows.Goals as goal

pub returns : goal.returns
returns c = record_rows
