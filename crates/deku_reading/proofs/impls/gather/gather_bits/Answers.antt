use Rattle.std.proofs.Common.{arith}
use Rattle.deku_bits.proofs.Handing.{passed_on}
use Rattle.deku_reading.proofs.Judging.{goes_on, ends_with, item_refused, not_kept, wide_of_kept, counted, judged_by_counts, some_bits, no_bits}
use Rattle.deku_reading.proofs.Early.{promptly_none, promptly_on}
use Rattle.deku_reading.proofs.impls.gather.gather_bits.Goals as goal

pub returns-then-bits-eq0-clause-reads : goal.returns-then-bits-eq0-clause-reads
returns-then-bits-eq0-clause-reads g c = no_bits c.args.bits c.if-bits-eq0.true

pub returns-in_err-item-clause-reads : goal.returns-in_err-item-clause-reads
returns-in_err-item-clause-reads g c = passed_on _ c.from_residual.ensures.1 (some_bits c.args.bits (omega arith) (item_refused _ _ c.loop-into.invariant.far c.in_err-item.ensures.reads tt))

pub returns-in_err-keep-clause-reads : goal.returns-in_err-keep-clause-reads
returns-in_err-keep-clause-reads g c =
    let start = counted (g.R.Source.known c.args.reader.now.source).remaining c.args.reader.now.state _ c.bits_read-start.ensures in
    let before = counted (g.R.Source.known c.loop-into.reader.source).remaining c.loop-into.reader.state _ c.bits_read-before.ensures in
    let after = counted (g.R.Source.known c.from_reader_with_ctx.new.reader.source).remaining c.from_reader_with_ctx.new.reader.state _ c.bits_read-after.ensures in
    passed_on _ c.from_residual-in_err-keep.ensures.1 (some_bits c.args.bits (omega arith)
    (not_kept _ _ c.loop-into.invariant.far c.is_past_by-ends.result c.bits_read-before.result c.bits_read-after.result before after c.in_ok-item.ensures.reads
    (judged_by_counts _ _ _ c.args.bits _ _ start after c.is_past_by-ends.ensures) tt c.in_err-keep.ensures.err))

pub returns-then-ends-clause-reads : goal.returns-then-ends-clause-reads
returns-then-ends-clause-reads g c =
    let start = counted (g.R.Source.known c.args.reader.now.source).remaining c.args.reader.now.state _ c.bits_read-start.ensures in
    let after = counted (g.R.Source.known c.from_reader_with_ctx.new.reader.source).remaining c.from_reader_with_ctx.new.reader.state _ c.bits_read-after.ensures in
    some_bits c.args.bits (omega arith) (ends_with _ _ c.loop-into.invariant.far c.in_ok-item.ensures.reads
    (rw c.if-ends.true at (judged_by_counts _ _ _ c.args.bits _ _ start after c.is_past_by-ends.ensures)) tt c.in_ok-keep.ensures.placed)

pub loop-into-preserved : goal.loop-into-preserved
loop-into-preserved g c =
    let start = counted (g.R.Source.known c.args.reader.now.source).remaining c.args.reader.now.state _ c.bits_read-start.ensures in
    let before = counted (g.R.Source.known c.loop-into.reader.source).remaining c.loop-into.reader.state _ c.bits_read-before.ensures in
    let after = counted (g.R.Source.known c.from_reader_with_ctx.new.reader.source).remaining c.from_reader_with_ctx.new.reader.state _ c.bits_read-after.ensures in
    record {
      far = goes_on c.loop-into.invariant.far c.in_ok-item.ensures.reads (rw c.if-ends.false at (judged_by_counts _ _ _ c.args.bits _ _ start after c.is_past_by-ends.ensures))
          (wide_of_kept _ _ _ _ _ before after c.if-ends.false c.in_ok-keep.ensures.kept) c.in_ok-keep.ensures.placed;
      early = λ p. promptly_on (c.loop-into.invariant.early p) (c.in_ok-item.ensures.early p);
    }

pub returns-then-ends-clause-early : goal.returns-then-ends-clause-early
returns-then-ends-clause-early g c = λ p. promptly_on (c.loop-into.invariant.early p) (c.in_ok-item.ensures.early p)

pub returns-then-bits-eq0-clause-early : goal.returns-then-bits-eq0-clause-early
returns-then-bits-eq0-clause-early g c = λ p. promptly_none
