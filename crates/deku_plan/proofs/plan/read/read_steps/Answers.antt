use Rattle.std.proofs.Common.{◌≡◌, ◌+◌, length, ap, refl, inr, ◌∙◌, arith, rules}
use Rattle.std.proofs.lemmas.Result.{err_from_is_err_and}
use Rattle.std.proofs.lemmas.List.{length-set}
use Rattle.deku_fields.proofs.Resting.{rests, rests_in, rests_on, field_going}
use Rattle.deku.proofs.Early.{early_on}
use Rattle.deku_fields.proofs.Stepping.{started, field_read, field_refused, fields_read}
use Rattle.deku_fields.proofs.ReadBack.{fields_back, left_behind}
use Rattle.deku_fields.proofs.Finding.{finds_any}
use Rattle.deku_fields.proofs.Fetching.{tally_none, tally_more, tally_whole}
use Rattle.deku_fields.proofs.Causes.{list_caused}
use Rattle.deku_plan.proofs.Steps.{steps_long, step_at}
use Rattle.deku_plan.proofs.plan.read.read_steps.Goals as goal

pub loop-place-init : goal.loop-place-init
loop-place-init g c = (refl, started c.args.fields.now c.args.out.now _ _, inr refl, tally_none c.args.reader.now.state _, rests c.args.reader.now.state refl, λ _. refl)

pub returns-in_err-number-clause-meaning : goal.returns-in_err-number-clause-meaning
returns-in_err-number-clause-meaning g c =
    let p = err_from_is_err_and c.from_residual.result c.from_residual.ensures.1 in
    rw (p.1, p.2) (field_refused c.args.fields.now c.loop-place.place _ _ _ _ _ _ _ _ _ (omega arith) (c.loop-place.invariant.1) (c.in_err-number.ensures.reads))

pub loop-place-preserved : goal.loop-place-preserved
loop-place-preserved g c = (
  length-set c.loop-place.out c.loop-place.place c.in_ok-number.number ∙ c.loop-place.invariant.0,
  field_read c.args.fields.now c.loop-place.place _ c.loop-place.out c.in_ok-number.number _ _ _ _ _ _ (omega arith) (omega (arith, c.loop-place.invariant.0, c.requires.places)) (c.loop-place.invariant.1) (c.in_ok-number.ensures.reads),
  early_on c.loop-place.invariant.2 c.in_ok-number.ensures.early,
  tally_more c.args.fields.now c.loop-place.place _ c.in_ok-number.number (g.R.Source.known c.args.reader.now.source) (g.R.Source.known c.loop-place.reader.source) (g.R.Source.known c.read_field.new.reader.source) c.args.reader.now.state c.loop-place.reader.state c.read_field.new.reader.state (omega arith) c.loop-place.invariant.3 c.in_ok-number.ensures.reads c.in_ok-number.ensures.fetched c.in_ok-number.ensures.early,
  field_going _ c.in_ok-number.number (g.R.Source.known c.loop-place.reader.source) (g.R.Source.known c.read_field.new.reader.source) c.args.reader.now.state c.loop-place.reader.state c.read_field.new.reader.state _ _
      (rests_in (λ r. r.state) c.args.reader.now.state c.args.reader.now c.loop-place.reader c.loop-place.invariant.4) c.in_ok-number.ensures.reads,
  λ (e : c.loop-place.place + 1 ≡ 0). absurd (omega arith),
)

pub returns-clause-meaning : goal.returns-clause-meaning
returns-clause-meaning g c = fields_read c.args.fields.now c.loop-place.place c.loop-place.out _ _ _ _ (omega arith) (omega (arith, c.loop-place.invariant.0, c.requires.places)) (c.loop-place.invariant.1)

pub returns-clause-values : goal.returns-clause-values
returns-clause-values g c = fields_back c.args.fields.now (returns-clause-meaning g c)

pub returns-in_err-number-clause-values : goal.returns-in_err-number-clause-values
returns-in_err-number-clause-values g c = fields_back c.args.fields.now (returns-in_err-number-clause-meaning g c)

pub returns-in_err-number-clause-early : goal.returns-in_err-number-clause-early
returns-in_err-number-clause-early g c = early_on c.loop-place.invariant.2 c.in_err-number.ensures.early

pub returns-clause-behind : goal.returns-clause-behind
returns-clause-behind g c = λ items bytes after k calm begins stands tells room.
    left_behind c.args.fields.now _ _ _ _ _ items bytes after k begins stands tells room c.loop-place.invariant.2 (inr (returns-clause-values g c calm))

pub returns-clause-fetched : goal.returns-clause-fetched
returns-clause-fetched g c = tally_whole c.args.fields.now c.loop-place.place (g.R.Source.known c.args.reader.now.source) (g.R.Source.known c.loop-place.reader.source) c.args.reader.now.state c.loop-place.reader.state (omega arith) c.loop-place.invariant.3

pub returns-clause-found : goal.returns-clause-found
returns-clause-found g c = finds_any c.args.fields.now _ _ (returns-clause-meaning g c)

pub returns-in_err-number-clause-found : goal.returns-in_err-number-clause-found
returns-in_err-number-clause-found g c = finds_any c.args.fields.now _ _ (returns-in_err-number-clause-meaning g c)

pub returns-in_err-number-clause-stopped : goal.returns-in_err-number-clause-stopped
returns-in_err-number-clause-stopped g c =
    rests_on c.args.reader.now.state c.loop-place.reader.state c.args.reader.now.source c.loop-place.reader.source _
    (rests_in (λ r. r.state) c.args.reader.now.state c.args.reader.now c.loop-place.reader c.loop-place.invariant.4)
    (rests_in (λ r. r.source) c.args.reader.now.state c.args.reader.now c.loop-place.reader c.loop-place.invariant.4) c.in_err-number.ensures.stopped

pub returns-clause-stopped : goal.returns-clause-stopped
returns-clause-stopped g c = rests_in (λ r. r.source) c.args.reader.now.state c.args.reader.now c.loop-place.reader c.loop-place.invariant.4

pub returns-clause-none : goal.returns-clause-none
returns-clause-none g c = λ e. c.loop-place.invariant.5 (omega (arith, ap length e))

pub returns-in_err-number-clause-none : goal.returns-in_err-number-clause-none
returns-in_err-number-clause-none g c = λ e. absurd (omega (arith, ap length e))

pub returns-in_err-number-clause-cause : goal.returns-in_err-number-clause-cause
returns-in_err-number-clause-cause g c =
    let p = err_from_is_err_and c.from_residual.result c.from_residual.ensures.1 in
    rw (p.1, p.2) (list_caused c.args.fields.now _ c.args.reader.now.state _ _ _ _
    (field_refused c.args.fields.now c.loop-place.place _ _ _ _ _ _ _ _ _ (omega arith) (c.loop-place.invariant.1) (c.in_err-number.ensures.reads)))

pub returns-clause-early : goal.returns-clause-early
returns-clause-early g c = search rules

pub returns-clause-cause : goal.returns-clause-cause
returns-clause-cause g c = search rules

pub bounds-steps-place : goal.bounds-steps-place
bounds-steps-place g c = omega (arith, steps_long c.args.fields.now c.args.steps.now c.requires.steps)

pub read_field-requires : goal.read_field-requires
read_field-requires g c = step_at c.args.fields.now c.args.steps.now c.loop-place.place _ _ c.requires.steps (omega arith)
