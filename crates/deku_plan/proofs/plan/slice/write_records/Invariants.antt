use Rattle.std.proofs.Common.{◌≡◌, ◌*◌, length}
use Rattle.deku_bits.specs.Standings.{writer_state}
use Rattle.deku_plan.proofs.Putting.{GoesOn}
use Rattle.deku_plan.proofs.plan.slice.write_records.Given as goal

abbrev pub invariant-loop : goal.invariant-loop
invariant-loop g l = (l.place ≡ l.counter * length l.fields)
    × GoesOn l.fields l.count l.values l.counter l.place
    (writer_state (g.W.Sink.known l.initial.writer.sink) l.initial.writer.state) (g.W.Sink.known l.initial.writer.sink).health
    (writer_state (g.W.Sink.known l.writer.sink) l.writer.state) (g.W.Sink.known l.writer.sink).health
