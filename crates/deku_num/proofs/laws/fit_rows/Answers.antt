use Rattle.deku_num.proofs.WorkedRows.{fit_rows}
use Rattle.deku_num.proofs.laws.fit_rows.Goals as goal

pub returns : goal.returns
returns c = fit_rows
