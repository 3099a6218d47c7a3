use Rattle.deku_bits.proofs.WorkedRows.{read_rows}
use Rattle.deku_bits.proofs.laws.read_rows.Goals as goal

pub returns : goal.returns
returns c = read_rows
