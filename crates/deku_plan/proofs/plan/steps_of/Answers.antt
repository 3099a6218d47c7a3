use Rattle.std.proofs.Common.{get_or, take, inl, arith}
use Rattle.std.proofs.lemmas.Option.{slice_get-get_or}
use Rattle.std.proofs.lemmas.Result.{err_from_is_err_and}
use Rattle.deku_plan.proofs.Steps.{no_field, steps_more, counted_more, all_allowed}
use Rattle.deku_plan.proofs.plan.steps_of.Goals as goal

pub returns-in_err-step-clause-refused : goal.returns-in_err-step-clause-refused
returns-in_err-step-clause-refused c =
    let p = err_from_is_err_and c.from_residual.result c.from_residual.ensures.1 in
    let fs = c.args.fields.now in
    let i = c.loop-field.field-index in
    rw (p.1, p.2) (inl (record {
      index = i;
      holder = get_or fs i no_field;
      there = slice_get-get_or fs i no_field (omega arith);
      before = all_allowed (take i fs) c.loop-field.steps.items c.loop-field.invariant.0;
      why = c.in_err-step.ensures.rejected;
    }))

pub loop-field-preserved : goal.loop-field-preserved
loop-field-preserved c =
    let ss = c.loop-field.steps.items in
    let s = c.in_ok-step.step in
    rw (c.in-Ok.ensures.items) (
      steps_more c.args.fields.now c.loop-field.field-index no_field ss s (omega arith) c.loop-field.invariant.0 c.in_ok-step.ensures.step,
      counted_more c.loop-field.first _ ss s c.loop-field.invariant.1 c.in_ok-step.ensures.first c.saturating_add-first.ensures,
    )
