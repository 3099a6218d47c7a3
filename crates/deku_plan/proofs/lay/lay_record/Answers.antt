use Rattle.std.proofs.Common.{◌+◌, ◌<◌, ◌++◌, Bool, List, get_or, length, take, refl, ap, sym, ◌∙◌, arith, append-nil, append_assoc}
use Rattle.std.proofs.lemmas.List.{take_all}
use Rattle.deku_plan.specs.Laying.{value_bits, row_bits, laid_bits}
use Rattle.deku_plan.proofs.Steps.{no_step, widths_more, widths_front}
use Rattle.deku_plan.proofs.Columned.{no_number}
use Rattle.deku_plan.proofs.Laying.{fits_at, value_more}
use Rattle.deku_plan.proofs.lay.lay_record.Goals as goal

pub loop-place-init : goal.loop-place-init
loop-place-init c = (sym (append-nil (laid_bits c.args.out.now c.args.from)), omega arith, c.requires.held, refl)

pub lay_value-laid-requires-clause-fits : goal.lay_value-laid-requires-clause-fits
lay_value-laid-requires-clause-fits c = fits_at c.args.steps.now c.args.values.now c.loop-place.place no_step no_number c.requires.fitting (omega arith)

pub lay_value-laid-requires-clause-held : goal.lay_value-laid-requires-clause-held
lay_value-laid-requires-clause-held c = c.loop-place.invariant.2

pub lay_value-laid-requires-clause-room : goal.lay_value-laid-requires-clause-room
lay_value-laid-requires-clause-room c =
    let ss = c.args.steps.now in
    let i = c.loop-place.place in
    omega (arith, c.loop-place.invariant.1, c.loop-place.invariant.3, c.requires.room, widths_more ss i no_step (omega arith), widths_front ss (i + 1))

pub loop-place-preserved : goal.loop-place-preserved
loop-place-preserved c =
    let ss = c.args.steps.now in
    let ns = c.args.values.now in
    let i = c.loop-place.place in
    let inside : i < length ss = omega arith in
    let next : List Bool = value_bits (get_or ss i no_step).width (get_or ns i no_number) in
    let laid = c.lay_value-laid in (
      laid.ensures.bits
          ∙ ap (λ s. s ++ next) c.loop-place.invariant.0
          ∙ append_assoc (laid_bits c.args.out.now c.args.from) (row_bits (take i ss) (take i ns)) next
          ∙ ap (λ s. laid_bits c.args.out.now c.args.from ++ s) (sym (value_more ss ns i no_step no_number inside (omega (arith, c.requires.values)))),
      omega (arith, laid.ensures.count, c.loop-place.invariant.1, widths_more ss i no_step inside),
      laid.ensures.held,
      laid.ensures.long ∙ c.loop-place.invariant.3,
    )

pub returns-clause-bits : goal.returns-clause-bits
returns-clause-bits c =
    let ss = c.args.steps.now in
    let ns = c.args.values.now in
    let i = c.loop-place.place in
    rw (← take_all i ss (omega arith), ← take_all i ns (omega (arith, c.requires.values))) c.loop-place.invariant.0

pub returns-clause-count : goal.returns-clause-count
returns-clause-count c = rw (← take_all c.loop-place.place c.args.steps.now (omega arith)) c.loop-place.invariant.1

pub returns-clause-held : goal.returns-clause-held
returns-clause-held c = c.loop-place.invariant.2
