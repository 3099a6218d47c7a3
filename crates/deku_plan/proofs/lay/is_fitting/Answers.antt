use Rattle.std.proofs.Common.{◌<◌, length, arith}
use Rattle.deku_plan.proofs.Steps.{no_step}
use Rattle.deku_plan.proofs.Columned.{no_number}
use Rattle.deku_plan.proofs.Laying.{no_more, fitting_more}
use Rattle.deku_plan.proofs.lay.is_fitting.Goals as goal

pub loop-place-preserved : goal.loop-place-preserved
loop-place-preserved c = λ none.
    let ss = c.args.steps.now in
    let i = c.loop-place.place in
    let both = no_more c.loop-place.beyond c.bits_beyond-beyond.result none in
    let inside : i < length ss = omega arith in
    let short = c.requires.short i no_step inside in
    fitting_more ss c.args.values.now i no_step no_number inside (omega (arith, c.requires.values)) (c.loop-place.invariant both.0) (c.bits_beyond-beyond.ensures both.1 _ short.few short.mask)
