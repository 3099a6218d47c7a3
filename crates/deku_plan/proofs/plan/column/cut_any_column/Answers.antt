use Rattle.std.proofs.Common.{arith}
use Rattle.deku_plan.proofs.Columned.{each_more}
use Rattle.deku_plan.proofs.plan.column.cut_any_column.Goals as goal

pub loop-place-preserved : goal.loop-place-preserved
loop-place-preserved c =
    each_more c.args.field.now c.args.bytes.now c.args.bits c.args.first c.loop-place.place c.loop-place.out c.number_at.result (omega arith) c.loop-place.invariant c.number_at.ensures
