use Rattle.std.proofs.Common.{◌≡◌, ◌∙◌, All, map, ap, inl, inr, refl, sym, subst, arith, rules}
use Rattle.deku_bits.specs.Pieces.{total}
use Rattle.deku_fields.specs.Items.{field_shape, IsAllowedField}
use Rattle.deku_plan.specs.Plans.{widths}
use Rattle.deku_plan.proofs.Steps.{all_allowed, widths_total}
use Rattle.deku_plan.proofs.plan.Plan.new.Goals as goal

pub returns-in_default-clause-refused : goal.returns-in_default-clause-refused
returns-in_default-clause-refused c =
    let fs = c.args.fields.now in
    let ss = c.in_ok-steps.steps.items in
    let all : widths c.as_slice.result.now ≡ total (map field_shape fs) = ap widths c.as_slice.ensures.value ∙ widths_total fs ss c.in_ok-steps.ensures.steps in
    inr (inl (record {
      allowed = all_allowed fs ss c.in_ok-steps.ensures.steps;
      many = omega (arith, all, c.in_default.ensures.none refl);
      says = search rules;
    }))

pub invariant_of-result : goal.invariant_of-result
invariant_of-result c =
    let same = c.in-Ok.ensures.items in
    let fs = c.args.fields.now in
    let ss = c.in_ok-steps.steps.items in
    let wide : c.in-Some.bits ≡ widths ss = c.in-Some.ensures.some ∙ ap widths c.as_slice.ensures.value in
    let bits : c.in-Some.bits ≡ total (map field_shape fs) = wide ∙ widths_total fs ss c.in_ok-steps.ensures.steps in
    record {
      steps = rw same c.in_ok-steps.ensures.steps;
      firsts = c.in_ok-steps.ensures.firsts (omega (arith, wide));
      parts = search rules;
      sizes = search rules;
      bits = rw same bits;
      aligned = rw same c.are_aligned-aligned.ensures;
      straight = rw same c.are_straight-straight.ensures;
      high = rw same c.are_short-short.ensures.high;
      short = search rules;
    }

pub returns-clause-allowed : goal.returns-clause-allowed
returns-clause-allowed c = subst (λ x. All IsAllowedField x) (sym c.in-Ok.ensures.items) (all_allowed c.args.fields.now c.in_ok-steps.steps.items c.in_ok-steps.ensures.steps)

pub returns-clause-counted : goal.returns-clause-counted
returns-clause-counted c =
    let fs = c.args.fields.now in
    let ss = c.in_ok-steps.steps.items in
    let bits : c.in-Some.bits ≡ total (map field_shape fs) = c.in-Some.ensures.some ∙ ap widths c.as_slice.ensures.value ∙ widths_total fs ss c.in_ok-steps.ensures.steps in
    rw (c.in-Ok.ensures.items) (omega (arith, bits))
