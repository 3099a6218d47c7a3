use Rattle.std.proofs.Common.{length, refl}
use Rattle.deku_stream.proofs.Holding.{closed, filled}
use Rattle.deku_stream.proofs.bounded.BoundedBitVec.from_bits.Goals as goal

pub invariant_of-result : goal.invariant_of-result
invariant_of-result g c = closed (filled c.put_bits.new.bytes g.row.N (length c.args.bits.now) c.args.bits.now c.requires.size (c.put_bits.ensures.bits) refl c.requires.room)
