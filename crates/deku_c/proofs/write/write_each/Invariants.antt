use Rattle.deku_bits.specs.Standings.{writer_state}
use Rattle.deku_c.proofs.Writing.{WrittenSoFar}
use Rattle.deku_c.proofs.write.write_each.Given as goal

abbrev pub invariant-loop-place : goal.invariant-loop-place
invariant-loop-place g l = WrittenSoFar l.codes l.numbers l.place
    (writer_state (g.W.Sink.known l.initial.writer.sink) l.initial.writer.state) (g.W.Sink.known l.initial.writer.sink).health
    (writer_state (g.W.Sink.known l.writer.sink) l.writer.state) (g.W.Sink.known l.writer.sink).health
