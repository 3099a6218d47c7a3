use Rattle.deku_bits.proofs.Handing.{passed_on}
use Rattle.std.proofs.Common.{◌∙◌}
use Rattle.deku_reading.proofs.Judging.{held_other_ok, held_other_err}
use Rattle.deku_reading.proofs.impls.boxed.BoxedSliceDekuReaderTuple2Limit.from_reader_with_ctx.Goals as goal

pub returns-in_err-items-clause-reads : goal.returns-in_err-items-clause-reads
returns-in_err-items-clause-reads g c = passed_on _ c.from_residual.ensures.1 (held_other_err _ c.in_err-items.ensures.reads)

pub returns-clause-reads : goal.returns-clause-reads
returns-clause-reads g c = held_other_ok _ (λ xs h. c.into_boxed_slice.ensures.items ∙ h) c.in_ok-items.ensures.reads

pub returns-clause-early : goal.returns-clause-early
returns-clause-early g c = c.in_ok-items.ensures.early
