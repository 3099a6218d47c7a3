use Rattle.std.proofs.Common.{◌≡◌, ◌∙◌, ◌+◌, ◌*◌, ◌<◌, ◌≤◌, ℕ, Ok, map, length, take, get_or, inr, refl, sym, subst, arith}
use Rattle.deku_bits.specs.Pieces.{total}
use Rattle.deku_fields.specs.Items.{field_shape}
use Rattle.deku_plan.specs.Records.{ReadsColumn}
use Rattle.deku_plan.proofs.Steps.{no_field, no_step, all_allowed, steps_long, step_at, widths_total, widths_take, widths_more, widths_front, first_at}
use Rattle.deku_plan.proofs.Columned.{column_reads}
use Rattle.deku_plan.proofs.plan.Plan.read_column.Goals as goal

pub bounds-steps-index : goal.bounds-steps-index
bounds-steps-index c =
    let fs = c.self.inside.fields.items in
    let lt : c.args.index < length fs = subst (λ x. c.args.index < length x) (sym c.self.view_is) c.requires in
    rw (c.as_slice-steps.ensures.value) (omega (arith, lt, steps_long fs c.self.inside.steps.items c.self.invariant.steps))

pub cut_column-requires-clause-step : goal.cut_column-requires-clause-step
cut_column-requires-clause-step c =
    let fs = c.self.inside.fields.items in
    let lt : c.args.index < length fs = subst (λ x. c.args.index < length x) (sym c.self.view_is) c.requires in
    rw (c.as_slice-fields.ensures.value, c.as_slice-steps.ensures.value) (step_at fs c.self.inside.steps.items c.args.index no_field no_step c.self.invariant.steps lt)

pub cut_column-requires-clause-within : goal.cut_column-requires-clause-within
cut_column-requires-clause-within c =
    let fs = c.self.inside.fields.items in
    let ss = c.self.inside.steps.items in
    let lt : c.args.index < length fs = subst (λ x. c.args.index < length x) (sym c.self.view_is) c.requires in
    let here : c.args.index < length ss = omega (arith, lt, steps_long fs ss c.self.invariant.steps) in
    let first = first_at 0 ss c.args.index no_step c.self.invariant.firsts here in
    let more = widths_more ss c.args.index no_step here in
    let front = widths_front ss (c.args.index + 1) in
    let all = widths_total fs ss c.self.invariant.steps in
    rw (c.as_slice-steps.ensures.value) (omega (arith, first, more, front, all, c.self.invariant.bits))

pub returns-then-are_there : goal.returns-then-are_there
returns-then-are_there c =
    let fs = c.self.inside.fields.items in
    let ss = c.self.inside.steps.items in
    let count = length c.args.out.now in
    let lt : c.args.index < length fs = subst (λ x. c.args.index < length x) (sym c.self.view_is) c.requires in
    let long : length c.cut_column.new.out ≡ count = omega arith in
    let here : c.args.index < length ss = omega (arith, lt, steps_long fs ss c.self.invariant.steps) in
    let first : ℕ = (get_or ss c.args.index no_step).first in
    let begins : first ≡ total (map field_shape (take c.args.index fs)) =
    omega (arith, first_at 0 ss c.args.index no_step c.self.invariant.firsts here, widths_take fs ss c.args.index c.self.invariant.steps) in
    let each = rw (c.as_slice-fields.ensures.value, c.as_slice-steps.ensures.value) at c.cut_column.ensures in
    let counted = subst (λ n. count * n < 18446744073709551616) c.self.invariant.bits (c.if-are_there.ensures.counted refl) in
    let there = subst (λ n. count * n ≤ 8 * length c.args.bytes.now) c.self.invariant.bits (c.if-are_there.ensures.there refl) in
    subst (λ x. ReadsColumn x count c.args.index c.args.bytes.now (Ok c.cut_column.new.out)) c.self.view_is
    (inr (column_reads fs count c.args.index c.args.bytes.now c.self.inside.bits first c.cut_column.new.out (all_allowed fs ss c.self.invariant.steps) (c.self.invariant.straight c.if-self.true) lt long
    c.self.invariant.bits begins counted there each))

pub returns : goal.returns
returns c = let same = c.as_slice-fields.ensures.value ∙ c.self.view_is in rw same at c.column_from_first.ensures
