use Rattle.std.proofs.Common.{refl}
use Rattle.deku_bits.proofs.Handing.{passed_on}
use Rattle.deku_reading.proofs.Judging.{goes_on, ends_with, item_refused, not_kept, wide_of_kept, counted}
use Rattle.deku_reading.proofs.Early.{promptly_on}
use Rattle.deku_reading.proofs.impls.gather.gather_until.Goals as goal

pub returns-in_err-item-clause-reads : goal.returns-in_err-item-clause-reads
returns-in_err-item-clause-reads g c = passed_on _ c.from_residual.ensures.1 (item_refused _ _ c.loop-into.invariant.far c.in_err-item.ensures.reads refl)

pub returns-in_err-keep-clause-reads : goal.returns-in_err-keep-clause-reads
returns-in_err-keep-clause-reads g c = passed_on _ c.from_residual-in_err-keep.ensures.1
    (not_kept _ _ c.loop-into.invariant.far c.test-ends.result c.bits_read-before.result c.bits_read.result
    (counted (g.R.Source.known c.loop-into.reader.source).remaining c.loop-into.reader.state _ c.bits_read-before.ensures)
    (counted (g.R.Source.known c.from_reader_with_ctx.new.reader.source).remaining c.from_reader_with_ctx.new.reader.state _ c.bits_read.ensures) c.in_ok-item.ensures.reads c.test-ends.ensures.answered refl c.in_err-keep.ensures.err)

pub returns-then-ends-clause-reads : goal.returns-then-ends-clause-reads
returns-then-ends-clause-reads g c = ends_with _ _ c.loop-into.invariant.far c.in_ok-item.ensures.reads (rw c.if-ends.true at c.test-ends.ensures.answered) refl c.in_ok-keep.ensures.placed

pub loop-into-preserved : goal.loop-into-preserved
loop-into-preserved g c =
    let before = counted (g.R.Source.known c.loop-into.reader.source).remaining c.loop-into.reader.state _ c.bits_read-before.ensures in
    let after = counted (g.R.Source.known c.from_reader_with_ctx.new.reader.source).remaining c.from_reader_with_ctx.new.reader.state _ c.bits_read.ensures in
    record {
      askable = c.test-ends.ensures.again;
      far = goes_on c.loop-into.invariant.far c.in_ok-item.ensures.reads (rw c.if-ends.false at c.test-ends.ensures.answered)
          (wide_of_kept _ _ _ _ _ before after c.if-ends.false c.in_ok-keep.ensures.kept) c.in_ok-keep.ensures.placed;
      early = λ p. promptly_on (c.loop-into.invariant.early p) (c.in_ok-item.ensures.early p);
    }

pub returns-then-ends-clause-early : goal.returns-then-ends-clause-early
returns-then-ends-clause-early g c = λ p. promptly_on (c.loop-into.invariant.early p) (c.in_ok-item.ensures.early p)
