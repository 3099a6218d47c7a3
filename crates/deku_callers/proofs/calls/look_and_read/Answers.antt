use Rattle.std.proofs.lemmas.Result.{err_from_is_err_and}
use Rattle.deku.proofs.Joining.{first_refused, then_on}
use Rattle.deku_callers.proofs.calls.look_and_read.Goals as goal

pub returns : goal.returns
returns g c = then_on c.in_ok-_at_end.ensures.reads c.read_list.ensures.meaning

pub returns-in_err-_at_end : goal.returns-in_err-_at_end
returns-in_err-_at_end g c =
    let k = err_from_is_err_and c.from_residual.result c.from_residual.ensures.1 in
    rw (k.1, k.2) (first_refused c.in_err-_at_end.ensures.reads)
