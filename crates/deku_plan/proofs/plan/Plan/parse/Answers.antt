use Rattle.std.proofs.Common.{refl, arith}
use Rattle.deku_plan.proofs.Parsing.{good_none, good_more, no_field_at, rejected_at, fault_of}
use Rattle.deku_plan.proofs.plan.Plan.parse.Goals as goal

pub loop-index-init : goal.loop-index-init
loop-index-init c = good_none c.args.words.now c.new-fields.result.items c.new-fields.ensures.items

pub loop-index-preserved : goal.loop-index-preserved
loop-index-preserved c =
    good_more c.args.words.now c.loop-index.index c.loop-index.fields.items c.push.new.self.items _ c.in-Some.field (omega arith) c.in-Ok.ensures.items c.loop-index.invariant
    ((c.in-Some.ensures c.in-Some.field).0 refl) c.in_default-step_of.ensures.step.allowed

pub returns-in_default-clause-wrong : goal.returns-in_default-clause-wrong
returns-in_default-clause-wrong c =
    no_field_at c.args.words.now c.loop-index.index c.loop-index.fields.items _ (omega arith) c.loop-index.invariant (λ f named. c.in_default.not-Some f ((c.parse_field.ensures f).1 named))

pub returns-in-Err-clause-wrong : goal.returns-in-Err-clause-wrong
returns-in-Err-clause-wrong c =
    rejected_at c.args.words.now c.loop-index.index c.loop-index.fields.items _ c.in-Some.field c.in-Err.error (omega arith) c.loop-index.invariant ((c.in-Some.ensures c.in-Some.field).0 refl) c.in-Err.ensures.rejected

pub returns-clause-wrong : goal.returns-clause-wrong
returns-clause-wrong c = fault_of c.args.words.now c.loop-index.index c.loop-index.fields.items c.in-Err-new.error (omega arith) c.loop-index.invariant (rw c.as_slice.ensures.value at c.in-Err-new.ensures.refused)
