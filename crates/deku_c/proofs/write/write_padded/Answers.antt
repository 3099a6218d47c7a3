use Rattle.deku_bits.proofs.Handing.{passed_on}
use Rattle.deku.proofs.Joining.{first_refused, then_on}
use Rattle.deku_c.proofs.write.write_padded.Goals as goal

pub returns : goal.returns
returns g c = then_on c.in_ok-write_each.ensures c.finalize.ensures.writes

pub returns-in_err-write_each : goal.returns-in_err-write_each
returns-in_err-write_each g c = passed_on _ c.from_residual.ensures.1 (first_refused c.in_err-write_each.ensures)
