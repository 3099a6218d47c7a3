use Rattle.std.proofs.lemmas.Result.{err_from_is_err_and}
use Rattle.deku_c.proofs.Reading.{one_coded, one_rejected}
use Rattle.deku_c.proofs.read.read_one.Goals as goal

pub returns : goal.returns
returns g c = one_coded c.args.code _ c.in_ok-number.number _ c.field.ensures c.in_ok-number.ensures.reads c.of.ensures

pub returns-in_err-number : goal.returns-in_err-number
returns-in_err-number g c =
    let p = err_from_is_err_and c.from_residual.result c.from_residual.ensures.1 in
    rw (p.1, p.2) (one_rejected c.args.code _ _ c.field.ensures c.in_err-number.ensures.reads)
