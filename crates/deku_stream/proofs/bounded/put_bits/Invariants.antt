use Rattle.std.proofs.Common.{◌≡◌, length, take}
use Rattle.deku_stream.specs.Bits.{bits_in}
use Rattle.deku_device.specs.Overlays.{overlaid}
use Rattle.deku_stream.proofs.bounded.put_bits.Given as goal

abbrev pub invariant-loop-i : goal.invariant-loop-i
invariant-loop-i l = (length l.bytes ≡ length l.initial.bytes) × (bits_in l.bytes ≡ overlaid (bits_in l.initial.bytes) l.at (take l.i l.bits))
