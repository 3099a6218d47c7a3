use Rattle.std.proofs.lemmas.Result.{err_from_is_err_and, on_ok_weaker, IfErr-weaker}
use Rattle.deku_stream.specs.declared.ctx.Order.TheVariants.{Msb0}
use Rattle.deku_writer.proofs.Pushes.{three_pushed, first_stopped, second_stopped, third_stopped}
use Rattle.deku_writer.proofs.writer.pushing.push_three.Goals as goal

pub returns-in_err-push_along-clause-fault : goal.returns-in_err-push_along-clause-fault
returns-in_err-push_along-clause-fault g c =
    let p = err_from_is_err_and c.from_residual.result c.from_residual.ensures.1 in
    rw (p.1, p.2) (first_stopped Msb0 c.args.way c.args.first.now c.args.second.now c.args.third.now _ _ c.args.held.now _ c.requires.empty c.in_err-push_along.ensures.fault)

pub returns-in_err-push_along-2-clause-fault : goal.returns-in_err-push_along-2-clause-fault
returns-in_err-push_along-2-clause-fault g c =
    let p = err_from_is_err_and c.from_residual-in_err-push_along-2.result c.from_residual-in_err-push_along-2.ensures.1 in
    rw (p.1, p.2)
    (second_stopped Msb0 c.args.way c.args.first.now c.args.second.now c.args.third.now _ _ _ c.args.held.now _ _ c.requires.empty
    c.in_ok-push_along.ensures.pushed c.in_err-push_along-2.ensures.fault)

pub returns-clause-pushed : goal.returns-clause-pushed
returns-clause-pushed g c =
    on_ok_weaker c.push_along-3.result
    (λ m. three_pushed Msb0 c.args.way c.args.first.now c.args.second.now c.args.third.now _ _ _ _ c.args.held.now _ _ _ c.requires.empty c.in_ok-push_along.ensures.pushed c.in_ok-push_along-2.ensures.pushed m)
    c.push_along-3.ensures.pushed

pub returns-clause-fault : goal.returns-clause-fault
returns-clause-fault g c =
    IfErr-weaker c.push_along-3.result _ _
    (λ k f. third_stopped Msb0 c.args.way c.args.first.now c.args.second.now c.args.third.now _ _ _ _ c.args.held.now _ _ k c.requires.empty c.in_ok-push_along.ensures.pushed c.in_ok-push_along-2.ensures.pushed f)
    c.push_along-3.ensures.fault
