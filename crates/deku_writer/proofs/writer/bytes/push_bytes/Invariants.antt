use Rattle.std.proofs.Common.{◌*◌, take}
use Rattle.deku_stream.specs.declared.ctx.Order.TheVariants.{Msb0}
use Rattle.deku_stream.specs.Bits.{bits_in}
use Rattle.deku_writer.specs.Pushing.{Pushed}
use Rattle.deku_writer.proofs.writer.bytes.push_bytes.Given as goal

abbrev pub invariant-loop-i : goal.invariant-loop-i
invariant-loop-i g l = Pushed (g.W.Sink.known l.initial.sink) (g.W.Sink.known l.sink) Msb0 l.initial.held l.held (bits_in (take (64 * l.i) l.bytes))
