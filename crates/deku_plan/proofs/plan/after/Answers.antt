use Rattle.std.proofs.Common.{◌≡◌, ◌⊎◌, inl, inr, refl, arith, rules}
use Rattle.deku_plan.proofs.Aligning.{some_on}
use Rattle.deku_plan.proofs.plan.after.Goals as goal
use Rattle.deku_plan.proofs.plan.after.Goals.{else-at-ne0-via-then-at-ne0+else-ne, else-at-ne0-via-else-at-ne0}

pub returns-clause-some : goal.returns-clause-some
returns-clause-some c =
    let follows : (c.args.at ≡ 0) ⊎ (c.args.order ≡ c.args.before) =
    elim c.else-at-ne0.branch [ else-at-ne0-via-then-at-ne0+else-ne w ↦ inr (search rules) | else-at-ne0-via-else-at-ne0 w ↦ inl (omega arith) ] in
    λ xs. some_on xs c.args.at _ c.args.width c.args.before c.args.order (omega arith) c.requires.inside refl follows
