use Rattle.deku.proofs.WorkedRows as rows
use Rattle.deku.proofs.laws.vector_rows.Goals as goal

pub returns : goal.returns
returns c = rows.vector_rows
