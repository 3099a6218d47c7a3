use Rattle.deku.proofs.Joining.{first_refused, then_on}
use Rattle.deku_bits.proofs.Handing.{passed_on}
use Rattle.deku_plan.proofs.plan.slice.write_padded.Goals as goal

pub returns : goal.returns
returns g c = then_on c.in_ok-write_records.ensures c.finalize.ensures.writes

pub returns-in_err-write_records : goal.returns-in_err-write_records
returns-in_err-write_records g c = passed_on _ c.from_residual.ensures.1 (first_refused c.in_err-write_records.ensures)
