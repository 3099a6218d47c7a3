use Rattle.std.proofs.Common.{◌+◌, refl, ◌∙◌, arith}
use Rattle.deku_stream.specs.Bits.{bits_in}
use Rattle.deku_stream.proofs.BitPlaces.{length-bits_in}
use Rattle.deku_stream.proofs.Overlays.{lays_more}
use Rattle.deku_stream.proofs.bounded.put_bits.Goals as goal

pub loop-i-preserved : goal.loop-i-preserved
loop-i-preserved c = (
  c.put_bit.ensures.len ∙ c.loop-i.invariant.0,
  lays_more (bits_in c.args.bytes.now) c.args.at c.args.bits.now c.loop-i.i (c.args.at + c.loop-i.i) _ _ _ (c.loop-i.invariant.1) (c.put_bit.ensures.bits) refl refl (omega arith) (omega (arith, length-bits_in c.args.bytes.now)),
)
