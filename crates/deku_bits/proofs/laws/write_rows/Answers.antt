use Rattle.deku_bits.proofs.WorkedRows.{write_rows}
use Rattle.deku_bits.proofs.laws.write_rows.Goals as goal

pub returns : goal.returns
returns c = write_rows
