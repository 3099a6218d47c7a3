use Rattle.deku_bits.proofs.WorkedRows.{short_rows}
use Rattle.deku_bits.proofs.laws.short_rows.Goals as goal

pub returns : goal.returns
returns c = short_rows
