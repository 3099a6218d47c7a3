use Rattle.std.proofs.Common.{refl, ◌∙◌}
use Rattle.deku_bits.proofs.Handing.{passed_on, meant}
use Rattle.deku_meanings.proofs.Joining.{first_refused, then_on}
use Rattle.deku_reading.proofs.Judging.{goes_on, closed, item_refused, not_kept, wide_of_kept, counted, more_to_come, look_refused, look_counts_nothing}
use Rattle.deku_reading.proofs.impls.gather.gather_to_end.Goals as goal

pub returns-in_err-end : goal.returns-in_err-end
returns-in_err-end g c = passed_on _ c.from_residual.ensures.1 (item_refused _ _ c.loop-into.invariant (first_refused (look_refused c.in_err-end.ensures.reads)) tt)

pub returns-in_err-item : goal.returns-in_err-item
returns-in_err-item g c =
    passed_on _ c.from_residual-in_err-item.ensures.1 (item_refused _ _ c.loop-into.invariant (then_on (more_to_come (rw c.if-not-branch.true at c.in_ok-end.ensures.reads)) c.in_err-item.ensures.reads) tt)

pub loop-into-preserved : goal.loop-into-preserved
loop-into-preserved g c =
    let look = meant c.in_ok-end.ensures.reads in
    let before = counted (g.R.Source.known c.end.new.self.source).remaining c.end.new.self.state _ c.bits_read-before.ensures ∙ look_counts_nothing _ _ _ look.0 in
    let after = counted (g.R.Source.known c.from_reader_with_ctx.new.reader.source).remaining c.from_reader_with_ctx.new.reader.state _ c.bits_read.ensures in
    goes_on c.loop-into.invariant (then_on (more_to_come (rw c.if-not-branch.true at c.in_ok-end.ensures.reads)) c.in_ok-item.ensures.reads) refl
    (wide_of_kept _ _ _ _ _ before after refl c.in_ok-keep.ensures.kept) c.in_ok-keep.ensures.placed

pub returns-in_err-keep : goal.returns-in_err-keep
returns-in_err-keep g c =
    let look = meant c.in_ok-end.ensures.reads in
    let before = counted (g.R.Source.known c.end.new.self.source).remaining c.end.new.self.state _ c.bits_read-before.ensures ∙ look_counts_nothing _ _ _ look.0 in
    let after = counted (g.R.Source.known c.from_reader_with_ctx.new.reader.source).remaining c.from_reader_with_ctx.new.reader.state _ c.bits_read.ensures in
    passed_on _ c.from_residual-in_err-keep.ensures.1 (not_kept _ _ c.loop-into.invariant _ _ _ before after
    (then_on (more_to_come (rw c.if-not-branch.true at c.in_ok-end.ensures.reads)) c.in_ok-item.ensures.reads) refl tt c.in_err-keep.ensures.err)

pub returns : goal.returns
returns g c = let look = meant c.in_ok-end.ensures.reads in closed _ _ c.loop-into.invariant (rw c.if-not-branch.false at look.0) tt look.1
