use Rattle.std.proofs.Common.{◌+◌, ◌≤◌, get_or, arith}
use Rattle.deku_plan.proofs.Steps.{no_step}
use Rattle.deku_plan.proofs.Joining.{parts_more, held_most}
use Rattle.deku_plan.proofs.part.parts_of.Goals as goal

pub loop-place-preserved : goal.loop-place-preserved
loop-place-preserved c =
    let ss = c.args.steps.now in
    let i = c.loop-place.place in
    let part = c.in-Some.part in
    let few : c.held_after-held.result ≤ 64 = omega (arith, c.held_after-held.ensures, held_most part.bytes (c.loop-place.held + (get_or ss i no_step).width), c.in-Some.ensures.few) in (
      rw (c.in-Ok.ensures.items)
          (parts_more ss i no_step c.loop-place.parts.items c.loop-place.held c.held_after-held.result part (omega arith) c.loop-place.invariant.0 c.in-Some.ensures c.held_after-held.ensures),
      few,
      omega (arith, few),
    )
