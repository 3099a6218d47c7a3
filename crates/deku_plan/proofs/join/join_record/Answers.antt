use Rattle.std.proofs.Common.{◌≡◌, ◌+◌, ◌<◌, ◌++◌, Bool, List, get_or, length, take, refl, ap, sym, ◌∙◌, arith, append-nil, append_assoc}
use Rattle.std.proofs.lemmas.List.{take_all}
use Rattle.deku_bits.specs.Bits.{bits_in}
use Rattle.deku_plan.specs.Laying.{value_bits, row_bits}
use Rattle.deku_plan.proofs.Steps.{no_step, widths_more, widths_front}
use Rattle.deku_plan.proofs.Columned.{no_number}
use Rattle.deku_plan.proofs.Laying.{fits_at, value_more}
use Rattle.deku_plan.proofs.Joining.{no_held, no_part, parts_long, part_at, parts_next, parts_end}
use Rattle.deku_plan.proofs.join.join_record.Goals as goal

pub loop-place-init : goal.loop-place-init
loop-place-init c = (ap (λ s. bits_in (take c.args.from c.args.out.now) ++ s) (no_held _), omega arith, record { few = omega arith; below = omega arith; low = omega arith }, refl, refl)

pub bounds-steps-place : goal.bounds-steps-place
bounds-steps-place c = omega (arith, parts_long 0 c.args.steps.now c.args.parts.now 0 c.requires.parts)

pub bounds-values-place : goal.bounds-values-place
bounds-values-place c = omega (arith, parts_long 0 c.args.steps.now c.args.parts.now 0 c.requires.parts, c.requires.values)

pub join-joined-requires-clause-part : goal.join-joined-requires-clause-part
join-joined-requires-clause-part c =
    part_at 0 c.args.steps.now c.args.parts.now 0 c.loop-place.place c.loop-place.joined.held no_step no_part c.requires.parts c.loop-place.invariant.3
    (omega (arith, parts_long 0 c.args.steps.now c.args.parts.now 0 c.requires.parts))

pub join-joined-requires-clause-fits : goal.join-joined-requires-clause-fits
join-joined-requires-clause-fits c =
    fits_at c.args.steps.now c.args.values.now c.loop-place.place no_step no_number c.requires.fitting (omega (arith, parts_long 0 c.args.steps.now c.args.parts.now 0 c.requires.parts))

pub join-joined-requires-clause-joined : goal.join-joined-requires-clause-joined
join-joined-requires-clause-joined c = c.loop-place.invariant.2

pub join-joined-requires-clause-room : goal.join-joined-requires-clause-room
join-joined-requires-clause-room c =
    let ss = c.args.steps.now in
    let i = c.loop-place.place in
    let inside : i < length ss = omega (arith, parts_long 0 ss c.args.parts.now 0 c.requires.parts) in
    omega (arith, c.loop-place.invariant.1, c.loop-place.invariant.4, c.requires.room, widths_more ss i no_step inside, widths_front ss (i + 1))

pub loop-place-preserved : goal.loop-place-preserved
loop-place-preserved c =
    let ss = c.args.steps.now in
    let ps = c.args.parts.now in
    let ns = c.args.values.now in
    let i = c.loop-place.place in
    let long = parts_long 0 ss ps 0 c.requires.parts in
    let inside : i < length ss = omega (arith, long) in
    let first : List Bool = bits_in (take c.args.from c.args.out.now) in
    let next : List Bool = value_bits (get_or ss i no_step).width (get_or ns i no_number) in
    let part = part_at 0 ss ps 0 i c.loop-place.joined.held no_step no_part c.requires.parts c.loop-place.invariant.3 inside in
    let joined = c.join-joined in (
      joined.ensures.bits
          ∙ ap (λ s. s ++ next) c.loop-place.invariant.0
          ∙ append_assoc first (row_bits (take i ss) (take i ns)) next
          ∙ ap (λ s. first ++ s) (sym (value_more ss ns i no_step no_number inside (omega (arith, c.requires.values, inside)))),
      omega (arith, joined.ensures.count, c.loop-place.invariant.1, widths_more ss i no_step inside),
      joined.ensures.joined,
      parts_next ss ps i c.loop-place.joined.held joined.result.held no_step no_part inside (omega arith) c.loop-place.invariant.3 part joined.ensures.held,
      joined.ensures.long ∙ c.loop-place.invariant.4,
    )

pub returns-clause-bits : goal.returns-clause-bits
returns-clause-bits c =
    let ss = c.args.steps.now in
    let ps = c.args.parts.now in
    let ns = c.args.values.now in
    let i = c.loop-place.place in
    let long = parts_long 0 ss ps 0 c.requires.parts in
    let parts = rw (take_all i ss (omega (arith, long)), take_all i ps (omega arith)) at c.loop-place.invariant.3 in
    let none : c.loop-place.joined.held ≡ 0 = parts_end 0 ss ps c.loop-place.joined.held 0 parts c.requires.parts in
    let all = rw (take_all i ss (omega (arith, long)), take_all i ns (omega (arith, long, c.requires.values)), none) at c.loop-place.invariant.0 in
    sym (append-nil (bits_in (take c.loop-place.joined.place c.loop-place.out))) ∙ ap (λ s. bits_in (take c.loop-place.joined.place c.loop-place.out) ++ s) (sym (no_held _)) ∙ all

pub returns-clause-count : goal.returns-clause-count
returns-clause-count c =
    let ss = c.args.steps.now in
    let ps = c.args.parts.now in
    let i = c.loop-place.place in
    let long = parts_long 0 ss ps 0 c.requires.parts in
    let parts = rw (take_all i ss (omega (arith, long)), take_all i ps (omega arith)) at c.loop-place.invariant.3 in
    let none : c.loop-place.joined.held ≡ 0 = parts_end 0 ss ps c.loop-place.joined.held 0 parts c.requires.parts in
    let all = rw (take_all i ss (omega (arith, long))) at c.loop-place.invariant.1 in
    omega (arith, none, all)
