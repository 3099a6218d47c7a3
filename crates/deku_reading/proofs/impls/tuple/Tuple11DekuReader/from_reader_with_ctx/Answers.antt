use Rattle.deku_bits.proofs.Handing.{passed_on}
use Rattle.deku_meanings.proofs.Joining.{first_refused, then_on, answered}
use Rattle.deku_reading.proofs.Cutting.{turned, last_turned, chain_turned}
use Rattle.deku_reading.proofs.Early.{promptly_on}
use Rattle.deku_reading.proofs.impls.tuple.Tuple11DekuReader.from_reader_with_ctx.Goals as goal

pub returns-in_err-a-clause-reads : goal.returns-in_err-a-clause-reads
returns-in_err-a-clause-reads g c = passed_on _ c.from_residual.ensures.1 (turned (chain_turned (chain_turned (chain_turned (chain_turned (chain_turned (chain_turned (chain_turned (chain_turned (chain_turned (chain_turned last_turned)))))))))) (rw c.in_err-a.was at c.in-Some.ensures.reads))

pub returns-in-Some-clause-reads : goal.returns-in-Some-clause-reads
returns-in-Some-clause-reads g c = turned (chain_turned (chain_turned (chain_turned (chain_turned (chain_turned (chain_turned (chain_turned (chain_turned (chain_turned (chain_turned last_turned)))))))))) (rw c.in_ok-a.was at c.in-Some.ensures.reads)

pub returns-in_err-a-2-clause-reads : goal.returns-in_err-a-2-clause-reads
returns-in_err-a-2-clause-reads g c = rw (← c.in_default.ensures.stays) (passed_on _ c.from_residual-in_err-a-2.ensures.1 (first_refused c.in_err-a-2.ensures.reads))

pub returns-in_err-b-clause-reads : goal.returns-in_err-b-clause-reads
returns-in_err-b-clause-reads g c = rw (← c.in_default.ensures.stays) (passed_on _ c.from_residual-in_err-b.ensures.1 (then_on c.in_ok-a-2.ensures.reads (first_refused c.in_err-b.ensures.reads)))

pub returns-clause-reads : goal.returns-clause-reads
returns-clause-reads g c = rw (← c.in_default.ensures.stays) (then_on c.in_ok-a-2.ensures.reads (then_on c.in_ok-b.ensures.reads answered))

pub returns-clause-early : goal.returns-clause-early
returns-clause-early g c = rw (← c.in_default.ensures.stays) (λ p. promptly_on (c.in_ok-a-2.ensures.early p.0) (c.in_ok-b.ensures.early p.1))
