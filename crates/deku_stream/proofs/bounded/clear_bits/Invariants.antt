use Rattle.std.proofs.Common.{◌≡◌, ◌-◌, length, take, replicate, false}
use Rattle.deku_stream.specs.Bits.{bits_in}
use Rattle.deku_device.specs.Overlays.{overlaid}
use Rattle.deku_stream.proofs.bounded.clear_bits.Given as goal

abbrev pub invariant-loop-i : goal.invariant-loop-i
invariant-loop-i l = (length l.bytes ≡ length l.initial.bytes) × (bits_in l.bytes ≡ overlaid (bits_in l.initial.bytes) l.from (take l.i (replicate (l.to - l.from) false)))
