use Rattle.deku_num.proofs.WorkedRows.{part_rows}
use Rattle.deku_num.proofs.laws.part_rows.Goals as goal

pub returns : goal.returns
returns c = part_rows
