use Rattle.std.proofs.Common.{◌≡◌, [], rules}
use Rattle.std.proofs.lemmas.List.{nil_from_length}
use Rattle.deku_device.proofs.Transfers.{Gave-nil}
use Rattle.deku_writer.proofs.writer.pushing.give_any.Goals as goal

pub returns-then-is_empty-clause-gave : goal.returns-then-is_empty-clause-gave
returns-then-is_empty-clause-gave g c =
    let none : c.args.bytes.now ≡ [] = nil_from_length c.args.bytes.now (search rules) in
    rw none (Gave-nil (g.W.Sink.known c.args.sink.now))

pub returns-clause-gave : goal.returns-clause-gave
returns-clause-gave g c = search rules

pub returns-clause-fault : goal.returns-clause-fault
returns-clause-fault g c = search rules
