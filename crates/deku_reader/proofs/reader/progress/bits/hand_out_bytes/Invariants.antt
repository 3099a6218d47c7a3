use Rattle.std.proofs.Common.{◌≡◌, ◌*◌, ◌++◌, take}
use Rattle.deku_stream.specs.Bits.{facing}
use Rattle.deku_stream.specs.Streams.{flow}
use Rattle.deku_reader.proofs.reader.progress.bits.hand_out_bytes.Given as goal

abbrev pub invariant-loop-i : goal.invariant-loop-i
invariant-loop-i l = facing l.order l.initial.window ++ flow l.order (take l.i l.bytes) ≡ take (8 * l.i) l.dst ++ facing l.order l.window
