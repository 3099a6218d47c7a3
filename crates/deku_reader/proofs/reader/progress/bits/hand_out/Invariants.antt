use Rattle.std.proofs.Common.{◌≡◌, ◌++◌, take}
use Rattle.deku_stream.specs.Bits.{facing}
use Rattle.deku_reader.proofs.reader.progress.bits.hand_out.Given as goal

abbrev pub invariant-loop-bit : goal.invariant-loop-bit
invariant-loop-bit l = facing l.order l.initial.window ≡ take l.bit-index l.dst ++ facing l.order l.window
