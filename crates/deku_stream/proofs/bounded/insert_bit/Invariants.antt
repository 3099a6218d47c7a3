use Rattle.std.proofs.Common.{◌≡◌, ◌-◌, ◌∷◌, length, take, drop, get_or, false}
use Rattle.deku_stream.specs.Bits.{bits_in}
use Rattle.deku_device.specs.Overlays.{overlaid}
use Rattle.deku_stream.proofs.bounded.insert_bit.Given as goal

abbrev pub invariant-loop-i : goal.invariant-loop-i
invariant-loop-i l = let moved = l.bit ∷ take (l.len - l.at) (drop l.at (bits_in l.initial.bytes)) in
    (length l.bytes ≡ length l.initial.bytes)
    × (bits_in l.bytes ≡ overlaid (bits_in l.initial.bytes) l.at (take l.i moved))
    × (l.carried ≡ get_or moved l.i false)
