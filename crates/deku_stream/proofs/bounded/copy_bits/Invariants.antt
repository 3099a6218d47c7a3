use Rattle.std.proofs.Common.{◌≡◌, length, take, drop}
use Rattle.deku_stream.specs.Bits.{bits_in}
use Rattle.deku_device.specs.Overlays.{overlaid}
use Rattle.deku_stream.proofs.bounded.copy_bits.Given as goal

abbrev pub invariant-loop-i : goal.invariant-loop-i
invariant-loop-i l = (length l.bytes ≡ length l.initial.bytes) × (bits_in l.bytes ≡ overlaid (bits_in l.initial.bytes) 0 (take l.i (take l.count (drop l.from (bits_in l.source)))))
