use Rattle.deku_fields.proofs.WorkedRows.{misfit_rows}
use Rattle.deku_fields.proofs.laws.misfit_rows.Goals as goal

pub returns : goal.returns
returns c = misfit_rows
