use Rattle.deku_plan.proofs.Aligning.{Depends}
use Rattle.deku_plan.proofs.plan.are_aligned.Given as goal

abbrev pub invariant-loop-place : goal.invariant-loop-place
invariant-loop-place l = Depends l.fields l.place l.at l.order
