use Rattle.deku_bits.specs.Writers.{Nothing}
use Rattle.deku_bits.specs.Standings.{Going}
use Rattle.deku_bits.specs.WriterCalls.{WritesBits}
use Rattle.deku_bits.proofs.Lent.{lender_stays, lent_through}
use Rattle.deku_bits_write_tests.proofs.writer.write_lent.Goals as goal

pub returns : goal.returns
returns g c =
    let m = rw (c.new-writer.ensures.sink, c.new-writer.ensures.state) at c.write_bits_order.ensures.writes in
    let t = g.S.Sink.known c.args.sink.now in
    let after = g.S.Sink.known c.write_bits_order.new.self.sink.now in
    let u = c.write_bits_order.new.self.state in
    let k = c.sink-1.given in
    let is = k.1 (lender_stays (WritesBits c.args.order c.args.list.now) t after _ _ (Going Nothing 0) c.write_bits_order.result u m) in
    (u, rw is (lent_through (WritesBits c.args.order c.args.list.now) t after _ _ (Going Nothing 0) c.write_bits_order.result u m))
