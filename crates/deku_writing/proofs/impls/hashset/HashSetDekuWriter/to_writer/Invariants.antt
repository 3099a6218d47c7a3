use Rattle.deku_bits.specs.Standings.{writer_state}
use Rattle.deku_writing.proofs.WritingEach.{Awaits}
use Rattle.deku_writing.proofs.impls.hashset.HashSetDekuWriter.to_writer.Given as goal

abbrev pub invariant-loop-item : goal.invariant-loop-item
invariant-loop-item g l = Awaits (λ x. g.T.DekuWriter.meaning x l.ctx) l.self.keys l.item-iterator
    (writer_state (g.W.Sink.known l.initial.writer.sink) l.initial.writer.state) (g.W.Sink.known l.initial.writer.sink).health
    (writer_state (g.W.Sink.known l.writer.sink) l.writer.state) (g.W.Sink.known l.writer.sink).health
