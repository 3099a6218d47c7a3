use Rattle.std.proofs.lemmas.Result.{err_from_is_err_and}
use Rattle.std.proofs.Common.{◌++◌}
use Rattle.deku_callers.proofs.calls.write_in_three.Goals as goal

pub returns : goal.returns
returns g c =
    let law = c.write_calls_law.ensures in
    let behind = law.both c.args.second.now c.args.third.now _ _ _ _ _ _ _ c.in_ok-write_list-2.ensures.meaning c.write_list-3.ensures.meaning in
    law.both c.args.first.now (c.args.second.now ++ c.args.third.now) _ _ _ _ _ _ _ c.in_ok-write_list.ensures.meaning behind

pub returns-in_err-write_list-2 : goal.returns-in_err-write_list-2
returns-in_err-write_list-2 g c =
    let law = c.write_calls_law.ensures in
    let behind = law.refused c.args.second.now c.args.third.now _ _ _ _ _ c.in_err-write_list-2.ensures.meaning in
    let k = err_from_is_err_and c.from_residual-in_err-write_list-2.result c.from_residual-in_err-write_list-2.ensures.1 in
    rw (k.1, k.2) (law.both c.args.first.now (c.args.second.now ++ c.args.third.now) _ _ _ _ _ _ _ c.in_ok-write_list.ensures.meaning behind)
