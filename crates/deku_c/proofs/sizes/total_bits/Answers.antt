use Rattle.std.proofs.Common.{refl, arith}
use Rattle.deku_c.proofs.Sizing.{allowed_more, each_allowed, one_allowed, allowed_one, one_wide, sum_more, sum_past}
use Rattle.deku_c.proofs.sizes.total_bits.Goals as goal

pub returns-in_default-clause-none : goal.returns-in_default-clause-none
returns-in_default-clause-none c = λ none all.
    let allowed = allowed_one c.number_type.result c.field-field.result _ c.number_type.ensures c.field-field.ensures (each_allowed c.args.codes.now c.loop-code.code-index _ (omega arith) all) in
    let other = c.in_default.ensures.allowed.1 allowed in
    absurd (cc)

pub returns-in-None-clause-none : goal.returns-in-None-clause-none
returns-in-None-clause-none c = λ none all.
    sum_past c.args.codes.now c.loop-code.code-index _ c.loop-code.sum c.in-Ok.width (omega arith) c.loop-code.invariant.1
    (one_wide c.number_type.result c.field-field.result _ c.in-Ok.width c.number_type.ensures c.field-field.ensures c.in-Ok.ensures.width) c.in-None.ensures

pub loop-code-preserved : goal.loop-code-preserved
loop-code-preserved c = (
  allowed_more c.args.codes.now c.loop-code.code-index _ (omega arith) c.loop-code.invariant.0
      (one_allowed c.number_type.result c.field-field.result _ c.number_type.ensures c.field-field.ensures (c.in-Ok.ensures.allowed.0 refl)),
  sum_more c.args.codes.now c.loop-code.code-index _ c.loop-code.sum c.in-Ok.width c.in-Some.more (omega arith) c.loop-code.invariant.1
      (one_wide c.number_type.result c.field-field.result _ c.in-Ok.width c.number_type.ensures c.field-field.ensures c.in-Ok.ensures.width) c.in-Some.ensures.1,
)
