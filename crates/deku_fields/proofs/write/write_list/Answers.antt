use Rattle.std.proofs.Common.{◌≡◌, ◌+◌, length, ap, refl, arith, rules}
use Rattle.deku_bits.proofs.Handing.{passed_on}
use Rattle.deku_fields.proofs.Resting.{rests, rests_in, rests_on, item_going}
use Rattle.deku_fields.proofs.Stepping.{begun, item_written, item_refused, items_written}
use Rattle.deku_fields.proofs.Padded.{laid_written}
use Rattle.deku_fields.proofs.Causes.{items_caused}
use Rattle.deku_fields.proofs.write.write_list.Goals as goal

pub loop-item-init : goal.loop-item-init
loop-item-init g c = (begun c.args.items.now _ _, rests c.args.writer.now.state refl, λ _. refl)

pub returns-in_err-write_item-clause-meaning : goal.returns-in_err-write_item-clause-meaning
returns-in_err-write_item-clause-meaning g c = passed_on _ c.from_residual.ensures.1 (item_refused c.args.items.now c.loop-item.item-index _ _ _ _ _ _ _ _ (omega arith) (c.loop-item.invariant.0) (c.in_err-write_item.ensures.writes))

pub loop-item-preserved : goal.loop-item-preserved
loop-item-preserved g c = (
  item_written c.args.items.now c.loop-item.item-index _ _ _ _ _ _ _ (omega arith) (c.loop-item.invariant.0) (c.in_ok-write_item.ensures.writes),
  item_going _ (g.W.Sink.known c.loop-item.writer.sink) (g.W.Sink.known c.write_item.new.writer.sink) c.args.writer.now.state c.loop-item.writer.state c.write_item.new.writer.state _ _
      (rests_in (λ w. w.state) c.args.writer.now.state c.args.writer.now c.loop-item.writer c.loop-item.invariant.1) c.in_ok-write_item.ensures.writes,
  λ (e : c.loop-item.item-index + 1 ≡ 0). absurd (omega arith),
)

pub returns-clause-meaning : goal.returns-clause-meaning
returns-clause-meaning g c = items_written c.args.items.now c.loop-item.item-index _ _ _ _ (omega arith) (c.loop-item.invariant.0)

pub returns-clause-laid_out : goal.returns-clause-laid_out
returns-clause-laid_out g c = laid_written c.args.items.now (returns-clause-meaning g c)

pub returns-in_err-write_item-clause-laid_out : goal.returns-in_err-write_item-clause-laid_out
returns-in_err-write_item-clause-laid_out g c = laid_written c.args.items.now (returns-in_err-write_item-clause-meaning g c)

pub returns-in_err-write_item-clause-stopped : goal.returns-in_err-write_item-clause-stopped
returns-in_err-write_item-clause-stopped g c =
    rests_on c.args.writer.now.state c.loop-item.writer.state c.args.writer.now.sink c.loop-item.writer.sink _
    (rests_in (λ w. w.state) c.args.writer.now.state c.args.writer.now c.loop-item.writer c.loop-item.invariant.1)
    (rests_in (λ w. w.sink) c.args.writer.now.state c.args.writer.now c.loop-item.writer c.loop-item.invariant.1) c.in_err-write_item.ensures.stopped

pub returns-clause-stopped : goal.returns-clause-stopped
returns-clause-stopped g c = rests_in (λ w. w.sink) c.args.writer.now.state c.args.writer.now c.loop-item.writer c.loop-item.invariant.1

pub returns-clause-none : goal.returns-clause-none
returns-clause-none g c = λ e. c.loop-item.invariant.2 (omega (arith, ap length e))

pub returns-in_err-write_item-clause-none : goal.returns-in_err-write_item-clause-none
returns-in_err-write_item-clause-none g c = λ e. absurd (omega (arith, ap length e))

pub returns-in_err-write_item-clause-cause : goal.returns-in_err-write_item-clause-cause
returns-in_err-write_item-clause-cause g c = items_caused c.args.items.now (g.W.Sink.known c.args.writer.now.sink) c.args.writer.now.state _ _ _ _ (returns-in_err-write_item-clause-meaning g c)

pub returns-clause-cause : goal.returns-clause-cause
returns-clause-cause g c = search rules
