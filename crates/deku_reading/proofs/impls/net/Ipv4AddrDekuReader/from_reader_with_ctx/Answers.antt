use Rattle.std.proofs.Common.{rules}
use Rattle.deku_bits.proofs.Handing.{passed_on}
use Rattle.deku_meanings.proofs.Joining.{first_refused, then_on}
use Rattle.deku_reading.proofs.Holding.{shown}
use Rattle.deku_reading.proofs.Addresses.{ipv4_made}
use Rattle.deku_reading.proofs.impls.net.Ipv4AddrDekuReader.from_reader_with_ctx.Goals as goal

pub returns-in_err-number-clause-reads : goal.returns-in_err-number-clause-reads
returns-in_err-number-clause-reads g c = passed_on _ c.from_residual.ensures.1 (first_refused c.in_err-number.ensures.reads)

pub returns-clause-reads : goal.returns-clause-reads
returns-clause-reads g c = then_on c.in_ok-number.ensures.reads (shown (ipv4_made _ _ c.from_bits.ensures (search rules)))

pub returns-clause-early : goal.returns-clause-early
returns-clause-early g c = λ _. c.in_ok-number.ensures.early
