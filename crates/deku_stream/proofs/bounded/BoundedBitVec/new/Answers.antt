use Rattle.deku_stream.proofs.Holding.{closed, nothing}
use Rattle.deku_stream.proofs.bounded.BoundedBitVec.new.Goals as goal

pub invariant_of-result : goal.invariant_of-result
invariant_of-result g c = closed (nothing g.row.N c.requires)
