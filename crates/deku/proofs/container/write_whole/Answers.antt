use Rattle.deku_bits.specs.Writers.{Nothing}
use Rattle.deku_bits.specs.Standings.{Going}
use Rattle.deku_bits.specs.WriterCalls.{Finalizes}
use Rattle.deku_bits.proofs.Lent.{lender_stays, lent_through}
use Rattle.deku_meanings.specs.Composing.{Both}
use Rattle.deku.proofs.container.write_whole.Goals as goal

pub returns : goal.returns
returns g c =
    let m = rw (c.new-writer.ensures.sink, c.new-writer.ensures.state) at c.write_padded.ensures in
    let t = g.W.Sink.known c.args.sink.now in
    let after = g.W.Sink.known c.write_padded.new.writer.sink.now in
    let u = c.write_padded.new.writer.state in
    let meant = Both (g.T.DekuWriter.meaning c.args.value.now c.args.ctx) Finalizes in
    let is = c.sink-1.given.1 (lender_stays meant t after _ _ (Going Nothing 0) c.write_padded.result u m) in
    (u, rw is (lent_through meant t after _ _ (Going Nothing 0) c.write_padded.result u m))
