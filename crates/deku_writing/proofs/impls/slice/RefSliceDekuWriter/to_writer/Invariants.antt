use Rattle.std.proofs.Common.{◌-◌, ◌≤◌, length}
use Rattle.deku_bits.specs.Standings.{writer_state}
use Rattle.deku_writing.proofs.WritingEach.{GoesOn}
use Rattle.deku_writing.proofs.impls.slice.RefSliceDekuWriter.to_writer.Given as goal

abbrev pub invariant-loop-written : goal.invariant-loop-written
invariant-loop-written g l = record {
  few : l.written ≤ length l.self.now;
  goes : GoesOn (λ x. g.T.DekuWriter.meaning x l.ctx) l.self.now l.written
      (writer_state (g.W.Sink.known l.initial.writer.sink) l.initial.writer.state) (g.W.Sink.known l.initial.writer.sink).health
      (writer_state (g.W.Sink.known l.writer.sink) l.writer.state) (g.W.Sink.known l.writer.sink).health;
}

abbrev pub decreases-loop-written : goal.decreases-loop-written
decreases-loop-written g l = length l.self.now - l.written
