use Rattle.std.proofs.Common.{◌++◌, [], ◌∷◌, get_or, ap, ◌∙◌, arith}
use Rattle.deku_plan.proofs.Joining.{no_part}
use Rattle.deku_plan.proofs.Blocks.{sizes_push, sizes_skip}
use Rattle.deku_plan.proofs.part.sizes_of.Goals as goal
use Rattle.deku_plan.proofs.part.sizes_of.Goals.{then-part-gt0+in-Ok, else-part-gt0}

pub loop-part-preserved : goal.loop-part-preserved
loop-part-preserved c =
    let ps = c.args.parts.now in
    let i = c.loop-part.part-index in
    elim c.if-part-gt0.branch [
      | then-part-gt0+in-Ok w ↦ ap (λ v. v.items) w.sizes-is ∙ w.in-Ok.ensures.items ∙ ap (λ x. x ++ (get_or ps i no_part).bytes ∷ []) c.loop-part.invariant ∙ sizes_push ps i no_part (omega arith) w.if-part-gt0.true
      | else-part-gt0 w ↦ ap (λ v. v.items) w.sizes-is ∙ c.loop-part.invariant ∙ sizes_skip ps i no_part (omega arith) (omega (arith, w.if-part-gt0.false))
    ]
