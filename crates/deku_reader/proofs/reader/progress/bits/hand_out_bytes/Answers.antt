use Rattle.std.proofs.lemmas.Grind.{common_steps}
use Rattle.std.proofs.Common.{ap, arith, refl, rules, sym, ◌∙◌}
use Rattle.deku_stream.specs.Bits.{facing}
use Rattle.deku_reader.proofs.Handouts.{hand_bytes_more}
use Rattle.deku_reader.proofs.reader.progress.bits.hand_out_bytes.Goals as goal

pub loop-i-preserved : goal.loop-i-preserved
loop-i-preserved c =
    hand_bytes_more c.args.order c.args.window.now c.loop-i.window c.hand_out.new.window c.loop-i.dst c.hand_out.new.dst c.args.bytes.now c.loop-i.i _ c.min-to.result
    (omega arith) (omega arith) (omega arith) refl (omega arith) (omega arith) c.loop-i.invariant (ap (facing c.args.order) (sym c.of_byte.ensures.bits) ∙ c.hand_out.ensures)

pub loop-i-init : goal.loop-i-init
loop-i-init c = search rules

pub overflow_mul-from : goal.overflow_mul-from
overflow_mul-from c = search rules

pub overflow_add-from : goal.overflow_add-from
overflow_add-from c = search rules

pub bounds-bytes-i : goal.bounds-bytes-i
bounds-bytes-i c = search rules

pub slice_bounds-hand_out-count : goal.slice_bounds-hand_out-count
slice_bounds-hand_out-count c = search rules

pub slice_bounds-hand_out-start : goal.slice_bounds-hand_out-start
slice_bounds-hand_out-start c = search rules

pub slice_bounds-hand_out-end : goal.slice_bounds-hand_out-end
slice_bounds-hand_out-end c = search rules

pub hand_out-requires : goal.hand_out-requires
hand_out-requires c = search rules

pub returns : goal.returns
returns c = grind (arith, common_steps)
