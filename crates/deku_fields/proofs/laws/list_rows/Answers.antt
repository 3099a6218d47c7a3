use Rattle.deku_fields.proofs.WorkedRows.{list_rows}
use Rattle.deku_fields.proofs.laws.list_rows.Goals as goal

pub returns : goal.returns
returns c = list_rows
