use Rattle.deku_bits.specs.Standings.{writer_state}
use Rattle.deku_meanings.specs.Composing.{Both}
use Rattle.deku_writing.proofs.WritingEach.{Awaits}
use Rattle.deku_writing.proofs.impls.hashmap.HashMapDekuWriter.to_writer.Given as goal

abbrev pub invariant-loop-key : goal.invariant-loop-key
invariant-loop-key g l = Awaits (λ p. Both (g.K.DekuWriter.meaning p.0 l.ctx) (g.V.DekuWriter.meaning p.1 l.ctx)) l.self.entries l.key-iterator
    (writer_state (g.W.Sink.known l.initial.writer.sink) l.initial.writer.state) (g.W.Sink.known l.initial.writer.sink).health
    (writer_state (g.W.Sink.known l.writer.sink) l.writer.state) (g.W.Sink.known l.writer.sink).health
