use Rattle.std.proofs.Common.{◌*◌, ◌-◌, drop, length, reverse}
use Rattle.deku_device.specs.Devices.{Gave}
use Rattle.deku_writer.proofs.writer.bytes.give_above.Given as goal

abbrev pub invariant-loop-i : goal.invariant-loop-i
invariant-loop-i g l = Gave (g.W.Sink.known l.initial.sink) (g.W.Sink.known l.sink) (reverse (drop (length l.bytes - 64 * l.i) l.bytes))
