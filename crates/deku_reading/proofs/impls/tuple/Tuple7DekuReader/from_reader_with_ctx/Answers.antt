use Rattle.deku_bits.proofs.Handing.{passed_on}
use Rattle.deku_reading.proofs.Cutting.{turned, last_turned, chain_turned}
use Rattle.deku_reading.proofs.impls.tuple.Tuple7DekuReader.from_reader_with_ctx.Goals as goal

pub returns-in_err-a-clause-reads : goal.returns-in_err-a-clause-reads
returns-in_err-a-clause-reads g c = passed_on _ c.from_residual.ensures.1 (turned (chain_turned (chain_turned (chain_turned (chain_turned (chain_turned (chain_turned last_turned)))))) (rw c.in_err-a.was at c.in-Some.ensures.reads))

pub returns-in-Some-clause-reads : goal.returns-in-Some-clause-reads
returns-in-Some-clause-reads g c = turned (chain_turned (chain_turned (chain_turned (chain_turned (chain_turned (chain_turned last_turned)))))) (rw c.in_ok-a.was at c.in-Some.ensures.reads)

pub returns-clause-reads : goal.returns-clause-reads
returns-clause-reads g c = rw (← c.in_default.ensures.stays) c.read_seven.ensures.reads
