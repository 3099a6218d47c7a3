use Rattle.std.proofs.Common.{◌≡◌}
use Rattle.deku_bits.specs.Standings.{Untouched, writer_state}
use Rattle.deku_fields.proofs.Stepping.{GoesOn}
use Rattle.deku_fields.proofs.write.write_list.Given as goal

abbrev pub invariant-loop-item : goal.invariant-loop-item
invariant-loop-item g l = GoesOn l.items l.item-index
    (writer_state (g.W.Sink.known l.initial.writer.sink) l.initial.writer.state) (g.W.Sink.known l.initial.writer.sink).health
    (writer_state (g.W.Sink.known l.writer.sink) l.writer.state) (g.W.Sink.known l.writer.sink).health
    × Untouched l.initial.writer.state l.initial.writer l.writer
    × (l.item-index ≡ 0 → l.writer ≡ l.initial.writer)
