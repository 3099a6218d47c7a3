use Rattle.std.proofs.Common.{arith}
use Rattle.std.proofs.lemmas.Result.{err_from_is_err_and}
use Rattle.deku_packets.specs.contracts.check.LayerDekuWriterUnit.TheImpl.{ghosts}
use Rattle.deku_packets.proofs.Reached.{reached_at, one_more, all_back}
use Rattle.deku_packets.proofs.check.first_change.Goals as goal

pub returns-in-Some-clause-changed : goal.returns-in-Some-clause-changed
returns-in-Some-clause-changed c =
    let is = rw c.deref-placed-items.ensures.value at c.placed-item.is in
    let reached = reached_at ghosts.meaning c.args.bytes.now c.args.packet.now.layers.items c.loop-placed.placed-index c.placed-item.result (omega (arith, c.deref-placed-items.ensures.len)) is c.loop-placed.invariant in
    (c.loop-placed.placed-index, c.placed-item.result, reached, rw c.in-Some.is at c.in_ok-index.ensures.changed)

pub returns-in_err-index-clause-refused : goal.returns-in_err-index-clause-refused
returns-in_err-index-clause-refused c =
    let p = err_from_is_err_and c.from_residual.result c.from_residual.ensures.1 in
    let is = rw c.deref-placed-items.ensures.value at c.placed-item.is in
    let reached = reached_at ghosts.meaning c.args.bytes.now c.args.packet.now.layers.items c.loop-placed.placed-index c.placed-item.result (omega (arith, c.deref-placed-items.ensures.len)) is c.loop-placed.invariant in
    rw (p.1, p.2) (c.loop-placed.placed-index, c.placed-item.result, reached, c.in_err-index.ensures.refused)

pub loop-placed-preserved : goal.loop-placed-preserved
loop-placed-preserved c =
    let is = rw c.deref-placed-items.ensures.value at c.placed-item.is in
    let same = rw c.in_default.is at c.in_ok-index.ensures.same in
    one_more ghosts.meaning c.args.bytes.now c.args.packet.now.layers.items c.loop-placed.placed-index c.placed-item.result (omega (arith, c.deref-placed-items.ensures.len)) is c.loop-placed.invariant same

pub returns-clause-same : goal.returns-clause-same
returns-clause-same c = all_back ghosts.meaning c.args.bytes.now c.args.packet.now.layers.items c.loop-placed.placed-index (omega (arith, c.deref-placed-items.ensures.len)) c.loop-placed.invariant
