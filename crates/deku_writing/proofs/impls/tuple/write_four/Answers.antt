use Rattle.deku_bits.proofs.Handing.{passed_on}
use Rattle.deku_meanings.proofs.Joining.{first_refused, then_on}
use Rattle.deku_writing.proofs.impls.tuple.write_four.Goals as goal

pub returns-in_err-to_writer : goal.returns-in_err-to_writer
returns-in_err-to_writer g c = passed_on _ c.from_residual.ensures.1 (first_refused c.in_err-to_writer.ensures)

pub returns : goal.returns
returns g c = then_on c.in_ok-to_writer.ensures c.write_three.ensures
