use Rattle.deku_bits.specs.Writers.{Nothing}
use Rattle.deku_bits.specs.Standings.{Going}
use Rattle.deku_bits.specs.WriterCalls.{Finalizes}
use Rattle.deku_bits.proofs.Lent.{lender_stays, lent_through}
use Rattle.deku.specs.Composing.{Both}
use Rattle.deku_fields.specs.ListCalls.{WritesItems}
use Rattle.deku_plan.specs.Plans.{items}
use Rattle.deku_plan.specs.Records.{records}
use Rattle.deku_plan.proofs.plan.slice.write_whole.Goals as goal

pub returns : goal.returns
returns g c =
    let m = rw (c.new-writer.ensures.sink, c.new-writer.ensures.state) at c.write_padded.ensures in
    let t = g.W.Sink.known c.args.sink.now in
    let after = g.W.Sink.known c.write_padded.new.writer.sink.now in
    let u = c.write_padded.new.writer.state in
    let meant = Both (WritesItems (items (records c.args.count c.args.fields.now) c.args.values.now)) Finalizes in
    let is = c.sink-1.given.1 (lender_stays meant t after _ _ (Going Nothing 0) c.write_padded.result u m) in
    (u, rw is (lent_through meant t after _ _ (Going Nothing 0) c.write_padded.result u m))
