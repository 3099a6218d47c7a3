use Rattle.deku_fields.proofs.WorkedRows.{cut_rows}
use Rattle.deku_fields.proofs.laws.cut_rows.Goals as goal

pub returns : goal.returns
returns c = cut_rows
