use Rattle.deku_stream.proofs.Holding.{closed, everything}
use Rattle.deku_stream.proofs.bounded.BoundedBitVec.from_array.Goals as goal

pub invariant_of-result : goal.invariant_of-result
invariant_of-result g c = rw (c.bit_count-len.ensures.bits) (closed (everything c.args.bytes g.row.N (c.bit_count-len.ensures.bytes) c.requires))

pub returns : goal.returns
returns g c = rw (c.bit_count-len.ensures.bits) ((everything c.args.bytes g.row.N (c.bit_count-len.ensures.bytes) c.requires).is)
