use Rattle.std.proofs.Common.{arith}
use Rattle.std.proofs.lemmas.Grind.{common_steps}
use Rattle.deku_stream.specs.Bits.{byte_bits, bits_of}
use Rattle.deku_stream.proofs.byte.bits_of_byte.Goals as goal

pub returns : goal.returns
unfolding byte_bits bits_of
returns c = grind (arith, common_steps)
