use Rattle.deku_num.proofs.WorkedRows.{number_rows}
use Rattle.deku_num.proofs.laws.number_rows.Goals as goal

pub returns : goal.returns
returns c = number_rows
