use Rattle.std.proofs.Common.{◌≡◌, take}
use Rattle.deku_bits.specs.Bits.{bits_in}
use Rattle.deku.proofs.container.joined_bits.Given as goal

abbrev pub invariant-loop-byte : goal.invariant-loop-byte
invariant-loop-byte l = l.bits.items ≡ bits_in (take l.byte-index l.bytes)
