use Rattle.deku_plan.specs.Records.{AreFirstAt}
use Rattle.deku_plan.proofs.plan.column.cut_short_column.Given as goal

abbrev pub invariant-loop-place : goal.invariant-loop-place
invariant-loop-place l = AreFirstAt l.field l.bytes l.bits l.first l.place l.out
