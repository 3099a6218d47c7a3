use Rattle.deku_bits.proofs.Handing.{passed_on}
use Rattle.deku_meanings.proofs.Joining.{first_refused, then_on}
use Rattle.deku.proofs.impls.cstring.CStringDekuWriter.to_writer.Goals as goal

pub returns : goal.returns
returns g c = then_on (rw c.as_bytes.ensures.value at c.in_ok-to_writer.ensures) c.to_writer-2.ensures

pub returns-in_err-to_writer : goal.returns-in_err-to_writer
returns-in_err-to_writer g c = passed_on _ c.from_residual.ensures.1 (first_refused (rw c.as_bytes.ensures.value at c.in_err-to_writer.ensures))
