use Rattle.deku_bits.proofs.Handing.{passed_on}
use Rattle.deku_meanings.proofs.Joining.{first_refused, then_on}
use Rattle.deku_bits.specs.declared.ctx.Order.TheVariants.{Msb0}
use Rattle.deku_reading.proofs.Early.{then_ok, skip_on}
use Rattle.deku.proofs.container.read_behind.Goals as goal

pub returns-clause-reads : goal.returns-clause-reads
returns-clause-reads g c = then_on c.in_ok-skip_bits.ensures.skips c.from_reader_with_ctx.ensures.reads

pub returns-in_err-skip_bits-clause-reads : goal.returns-in_err-skip_bits-clause-reads
returns-in_err-skip_bits-clause-reads g c = passed_on _ c.from_residual.ensures.1 (first_refused c.in_err-skip_bits.ensures.skips)

pub returns-clause-early : goal.returns-clause-early
returns-clause-early g c = then_ok c.from_reader_with_ctx.result
    (λ p may short. skip_on Msb0 c.args.bits _ _ _ _ _ _ c.in_ok-skip_bits.ensures.skips c.in_ok-skip_bits.ensures.early short (p may)) c.from_reader_with_ctx.ensures.early
