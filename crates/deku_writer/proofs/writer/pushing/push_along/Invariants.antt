use Rattle.std.proofs.Common.{take}
use Rattle.deku_writer.specs.Pushing.{along, Pushed}
use Rattle.deku_writer.proofs.writer.pushing.push_along.Given as goal

abbrev pub invariant-loop-i : goal.invariant-loop-i
invariant-loop-i g l = Pushed (g.W.Sink.known l.initial.sink) (g.W.Sink.known l.sink) l.order l.initial.held l.held (take l.i (along l.way l.bits))
