use Rattle.std.proofs.Common.{◌∙◌, ◌*◌, Ok, length, ap, sym, subst}
use Rattle.deku_bits.specs.WriterCalls.{Finalizes}
use Rattle.deku.specs.Composing.{Both}
use Rattle.deku.specs.Wholes.{WritesOver}
use Rattle.deku_fields.specs.ListCalls.{WritesItems}
use Rattle.deku_plan.specs.Plans.{widths, items}
use Rattle.deku_plan.specs.Records.{records}
use Rattle.deku_plan.proofs.Steps.{steps_long, widths_total}
use Rattle.deku_plan.proofs.Emitted.{laid_over}
use Rattle.deku_plan.proofs.plan.Plan.write_all.Goals as goal

pub laid_all-requires-clause-bits : goal.laid_all-requires-clause-bits
laid_all-requires-clause-bits c =
    c.self.invariant.bits ∙ sym (ap widths c.as_slice-steps.ensures.value ∙ widths_total c.self.inside.fields.items c.self.inside.steps.items c.self.invariant.steps)

pub laid_all-requires-clause-values : goal.laid_all-requires-clause-values
laid_all-requires-clause-values c =
    c.requires ∙ ap (λ x. c.args.count * x) (ap length (sym c.self.view_is) ∙ sym (steps_long c.self.inside.fields.items c.self.inside.steps.items c.self.invariant.steps) ∙ ap length (sym c.as_slice-steps.ensures.value))

pub returns-in-Some : goal.returns-in-Some
returns-in-Some c =
    let l = rw (c.as_slice-steps.ensures.value) at c.in-Some.ensures in
    let fs = c.self.inside.fields.items in
    subst (λ x. WritesOver (Both (WritesItems (items (records c.args.count x) c.args.values.now)) Finalizes) c.args.out.now (Ok c.in-Some.taken) c.laid_all.new.out) c.self.view_is
    (laid_over fs c.self.inside.steps.items c.args.values.now c.args.count c.in-Some.taken c.args.out.now c.laid_all.new.out c.self.invariant.steps (c.self.invariant.high l.short) l.fitting l.counted l.within l.long l.bytes l.bits l.rest)
