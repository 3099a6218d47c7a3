use Rattle.deku_bits.proofs.WorkedRows.{skip_rows}
use Rattle.deku_bits.proofs.laws.skip_rows.Goals as goal

pub returns : goal.returns
returns c = skip_rows
