use Rattle.std.proofs.Common.{◌∙◌, refl, arith}
use Rattle.std.proofs.lemmas.Result.{err_from_is_err_and}
use Rattle.std.proofs.lemmas.List.{length-set}
use Rattle.deku_c.proofs.Reading.{none_read, one_more, one_refused, all_read}
use Rattle.deku_c.proofs.read.read_each.Goals as goal

pub loop-place-init : goal.loop-place-init
loop-place-init g c = (refl, none_read c.args.codes.now c.args.numbers.now _ _)

pub loop-place-preserved : goal.loop-place-preserved
loop-place-preserved g c = (
  length-set c.loop-place.numbers c.loop-place.place c.in_ok-numbers.field-0 ∙ c.loop-place.invariant.0,
  one_more c.read_calls_law.ensures c.args.codes.now c.loop-place.numbers c.loop-place.place _ c.in_ok-numbers.field-0 (omega arith) (omega (arith, c.loop-place.invariant.0, c.requires)) c.loop-place.invariant.1 c.in_ok-numbers.ensures,
)

pub returns-in_err-numbers : goal.returns-in_err-numbers
returns-in_err-numbers g c =
    let p = err_from_is_err_and c.from_residual.result c.from_residual.ensures.1 in
    rw (p.1, p.2) (one_refused c.read_calls_law.ensures c.args.codes.now c.loop-place.numbers c.loop-place.place _ _ (omega arith) c.loop-place.invariant.1 c.in_err-numbers.ensures)

pub returns : goal.returns
returns g c = all_read c.args.codes.now c.loop-place.numbers c.loop-place.place (omega arith) (omega (arith, c.loop-place.invariant.0, c.requires)) c.loop-place.invariant.1
