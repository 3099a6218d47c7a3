use Rattle.std.proofs.Common.{◌∷◌, []}
use Rattle.std.proofs.lemmas.Result.{on_ok_weaker, IfErr-weaker}
use Rattle.deku_writer.proofs.Fills.{bit_fills}
use Rattle.deku_writer.proofs.Pushes.{filled_none, filled_given, filled_declined}
use Rattle.deku_writer.proofs.writer.pushing.push_bit.Goals as goal

pub returns-in-None-clause-pushed : goal.returns-in-None-clause-pushed
returns-in-None-clause-pushed g c =
    filled_none _ c.args.order c.args.held.now c.push.new.self (c.args.bit ∷ []) (bit_fills c.args.order c.args.held.now c.push.new.self c.args.bit c.from.result [] c.from.ensures c.in-None.ensures)

pub returns-in-Some-clause-pushed : goal.returns-in-Some-clause-pushed
returns-in-Some-clause-pushed g c =
    let f = bit_fills c.args.order c.args.held.now c.push.new.self c.args.bit c.from.result (c.in-Some.byte ∷ []) c.from.ensures c.in-Some.ensures in
    on_ok_weaker c.give_out.result
    (λ m. filled_given _ _ c.args.order c.args.held.now c.push.new.self (c.args.bit ∷ []) (c.in-Some.byte ∷ []) f m)
    c.give_out.ensures.gave

pub returns-in-Some-clause-fault : goal.returns-in-Some-clause-fault
returns-in-Some-clause-fault g c =
    let f = bit_fills c.args.order c.args.held.now c.push.new.self c.args.bit c.from.result (c.in-Some.byte ∷ []) c.from.ensures c.in-Some.ensures in
    IfErr-weaker c.give_out.result _ _ (λ k g. filled_declined _ _ c.args.order c.args.held.now c.push.new.self (c.args.bit ∷ []) (c.in-Some.byte ∷ []) k f g) c.give_out.ensures.fault
