use Rattle.std.proofs.Common.{◌≡◌}
use Rattle.deku_bits.specs.Standings.{Untouched, writer_state}
use Rattle.deku_fields.proofs.Stepping.{GoesOn}
use Rattle.deku_plan.specs.Plans.{items}
use Rattle.deku_plan.proofs.plan.write.write_steps.Given as goal

abbrev pub invariant-loop-place : goal.invariant-loop-place
invariant-loop-place g l = GoesOn (items l.fields l.values) l.place
    (writer_state (g.W.Sink.known l.initial.writer.sink) l.initial.writer.state) (g.W.Sink.known l.initial.writer.sink).health
    (writer_state (g.W.Sink.known l.writer.sink) l.writer.state) (g.W.Sink.known l.writer.sink).health
    × Untouched l.initial.writer.state l.initial.writer l.writer
    × (l.place ≡ 0 → l.writer ≡ l.initial.writer)
