use Rattle.deku_fields.proofs.WorkedRows.{turned_rows}
use Rattle.deku_fields.proofs.laws.turned_rows.Goals as goal

pub returns : goal.returns
returns c = turned_rows
